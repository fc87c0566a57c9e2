-- `Set::count` meets its contract.
-- Assumes nothing.
use Rattle.std.proofs.Common.{◌≡◌, ℕ, ◌≤◌, Bool, false, zero, suc, List, length, take, sym, ◌∙◌, ap, arith, rules, tests}
use native.Mathlib.Numerals.{add-one}
use Rattle.std.specs.List.{count_by}
use Rattle.std.proofs.lemmas.List.Sums.{length-filter, count_by_more_yes, count_by_more_no}
use Rattle.std.proofs.lemmas.Iterator.{YieldsList-from_slice}
use Rattle.std.proofs.lemmas.Iterator.Consumers.{YieldsList-from_filter, count_from_yields_List}
use Rattle.std.proofs.lemmas.List.{take_all}
use Rattle.laws.specs.Range.{count}
use Rattle.laws.proofs.Tests.{by_test}
use Rattle.laws.proofs.Tables.{count_begun, count_yes, count_no}
use Rattle.model.specs.Limits.{STATES}
use Rattle.reach.specs.Set.{flag_at}
use Rattle.reach.proofs.Set.count.Goals as goal

-- the flags of a list that are set are counted by their places
counted : (flags : List Bool) (n : ℕ) → n ≤ length flags → count_by (λ (f : Bool). f) (take n flags) ≡ count n (flag_at flags)
counted flags zero l = count_begun (flag_at flags)
counted flags (suc n) l =
    by_test (flag_at flags n)
    (λ h. rw add-one at (count_by_more_yes (λ (f : Bool). f) flags n false (omega arith) h ∙ count_yes (flag_at flags) (counted flags n (omega arith)) h))
    (λ h. rw add-one at (count_by_more_no (λ (f : Bool). f) flags n false (omega arith) h ∙ count_no (flag_at flags) (counted flags n (omega arith)) h))

pub returns : goal.returns
returns c =
    let flags = c.args.self.now.flags in
    let h : length flags ≡ STATES = search rules in
    count_from_yields_List _ _ c.count.ensures.ran
    (YieldsList-from_filter _ (λ (f : Bool). f) (YieldsList-from_slice flags cc) c.filter.ensures.closure (λ x r q k. search (rules, tests)))
    ∙ length-filter (λ (f : Bool). f) flags ∙ ap (count_by (λ (f : Bool). f)) (sym (take_all STATES flags (omega arith))) ∙ counted flags STATES (omega arith)
