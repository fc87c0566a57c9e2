-- Runs of lines of one kind.
use Rattle.std.specs.Prelude.{ℕ, zero, suc, ◌≡◌, ◌⊎◌, ◌<◌, ◌≤◌, ◌+◌, ◌*◌, ◌/◌, ◌%◌, List, [], ◌∷◌, cond, length, get_or, set, take, drop, replicate, ltb, Result, Ok, Err}
use Rattle.model.specs.Arrows.{drawn}
use Rattle.model.specs.Limits.{ACTIONS, BOXES}
use Rattle.text.specs.Lines.{lines, end_of, line_at}
use Rattle.model.specs.declared.refusal.Refusal.{Refusal}
use Rattle.model.specs.declared.refusal.Refusal.TheVariants as why
use Rattle.model.specs.declared.refusal.Refused.{Refused}
use Rattle.model.specs.Refusal.{refused_as}
use Rattle.sheet.specs.declared.cursor.Cursor.{Cursor}
use Rattle.sheet.specs.declared.Run.{Run}
use Rattle.sheet.specs.declared.Taken.{Taken}
use Rattle.sheet.specs.Numbers.{Record, on_record}
use Rattle.sheet.specs.Records.{box_line, act_line, go_line, view_line, flow_line, on_flow}

-- how a run of lines ends: with what was read, the lines left and the number of the next one; or with a refusal
pub data Got (S : Type 0) : Type 0 where
  got : S → List (List ℕ) → ℕ → Got S
  refused : Refusal → ℕ → Got S

-- `left` lines are due, from entry k on; the first has the number n
unfoldable pub phase : {S : Type 0} → (ℕ → S → List ℕ → Record) → (ℕ → S → ℕ → ℕ → ℕ → ℕ → S) → ℕ → ℕ → S → List (List ℕ) → ℕ → Got S
phase line store zero k s ls n = got s ls n
phase line store (suc left) k s [] n = refused why.Ended n
phase line store (suc left) k s (l ∷ ls) n =
    on_record (line k s l)
    (λ a b c d. phase line store left (suc k) (store k s a b c d) ls (suc n))
    (λ e. refused e n)

-- `box` lines: the ids, in the order of positions
abbrev pub boxes : ℕ → List (List ℕ) → ℕ → Got (List ℕ)
boxes count =
    phase (λ k ids. box_line (take k ids)) (λ k ids id _ _ _. set ids k id) count 0 (replicate BOXES 0)

-- `act` lines: the positions of the actions' boxes
abbrev pub acts : List ℕ → ℕ → List (List ℕ) → ℕ → Got (List ℕ)
acts ids count =
    phase (λ k _. act_line ids) (λ k owners box _ _ _. set owners k box) count 0 (replicate ACTIONS 0)

-- the tables of next states and outputs
pub record Steps : Type 0 where
  pub next : List ℕ
  pub outputs : List ℕ

abbrev pub steps : List ℕ → List ℕ → Steps
steps next outputs = record { next = next; outputs = outputs }

-- `go` lines: every state and action, state ascending, then action
abbrev pub goes : ℕ → ℕ → Steps → List (List ℕ) → ℕ → Got Steps
goes states actions =
    phase (λ k _. go_line states (k / actions) (k % actions))
    (λ k t _ _ next output. steps (set t.next k next) (set t.outputs k output))
    (states * actions)
    0

-- `flow` and `both` lines, as many as there are
unfoldable pub flows : List ℕ → List ℕ → List (List ℕ) → ℕ → Got (List ℕ)
flows ids arrows [] n = got arrows [] n
flows ids arrows (l ∷ ls) n =
    on_flow (flow_line ids l)
    (λ v u. flows ids (drawn v u arrows) ls (suc n))
    (λ v u. flows ids (drawn u v (drawn v u arrows)) ls (suc n))
    (λ e. refused e n)
    (got arrows (l ∷ ls) n)

-- `view` lines: every box in position order, states ascending
abbrev pub views : List ℕ → ℕ → List ℕ → List (List ℕ) → ℕ → Got (List ℕ)
views ids states =
    phase (λ k _. view_line (get_or ids (k / states) 0) (k % states)) (λ k t _ _ class _. set t k class) (length ids * states) 0

-- what a line says, with the place after it; or why it is refused, with its number
abbrev pub taken : {T : Type 0} → T → ℕ → Taken T
taken x next = record { read = x; next = next }

abbrev pub taken_from : {T : Type 0} → Result T Refusal → ℕ → ℕ → Result (Taken T) Refused
taken_from (Ok x) next n = Ok (taken x next)
taken_from (Err e) next n = Err (refused_as e n)

-- the line at a place of a text, which has the number n, as the code takes it; `Ended` where the text has no line more
abbrev pub taken_by : {T : Type 0} → (List ℕ → Result T Refusal) → List ℕ → ℕ → ℕ → Result (Taken T) Refused
taken_by line t at n =
    cond (ltb at (length t)) (taken_from (line (line_at t at)) (end_of 10 t at + 1) n) (Err (refused_as why.Ended n))

-- the same by a reader of which is known what it may say of a line
pub record TakenBy {T : Type 0} (says : List ℕ → Result T Refusal → Type 0) (t : List ℕ) (at n : ℕ) (r : Result (Taken T) Refused) : Type 0 where
  pub was : ((length t ≤ at) × (r ≡ Err (refused_as why.Ended n)))
      ⊎ ((at < length t) × (x : Result T Refusal) × says (line_at t at) x × (r ≡ taken_from x (end_of 10 t at + 1) n))

-- what the code's answer and what it read say of a text
abbrev pub told : {S : Type 0} → Result Cursor Refused → List ℕ → S → Got S
told (Ok c) t s = got s (lines (drop c.at t)) c.line
told (Err r) t s = refused r.refusal r.line

abbrev pub told_run : {S : Type 0} → Result (Run S) Refused → List ℕ → Got S
told_run (Ok r) t = got r.read (lines (drop r.next.at t)) r.next.line
told_run (Err r) t = refused r.refusal r.line
