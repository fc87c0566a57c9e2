-- What a case's claims say: in the mathematical definitions, and of the calls' own answers.
use Rattle.std.specs.Prelude.{◌≡◌, Bool, List, [], ◌∷◌, ℕ, ◌<◌, eqb, length, get_or, Result, Err, IsOkAnd}
use Rattle.laws.specs.Range.{first, count}
use Rattle.noninterference.specs.Machine as noninterference
use Rattle.noninterference.specs.Purge.{Policy, intransitive, purge, keeps}
use Rattle.noninterference.specs.Conditions.{Conditions, ByView}
use Rattle.noninterference.specs.Place as places
use Rattle.noninterference.specs.Place.{Place, FirstBroken, OfAny}
use Rattle.noninterference.specs.Needed.{Arrow, arrow, NeededList}
use Rattle.noninterference.specs.Depth.{Depth}
use Rattle.noninterference.specs.Reached.{Reach}
use Rattle.model.specs.declared.refusal.Refused.{Refused}
use Rattle.model.specs.Limits.{BOXES, NEXT_ENTRIES, OUTPUT_ENTRIES, VIEW_ENTRIES, LIST_ENTRIES}
use Rattle.model.specs.Denoted.{machine_of, policy_of, view_of, owner_at}
use Rattle.register.specs.Tables.{full}
use Rattle.views.specs.Judgement as judging
use Rattle.views.specs.Judgement.{judgement_of}
use Rattle.views.specs.declared.Fault.TheVariants.{Output, Respect, Step}
use Rattle.needs.specs.Listed.{padded}
use Rattle.needs.specs.Answered.{needed_of, list_of, told}
use Rattle.needs.specs.declared.Needs.{Needs}
use Rattle.purge.specs.Purged.{purged_of, written}
use Rattle.model.specs.declared.Kind.TheVariants.{Intransitive}
use Rattle.cases.specs.Cases.{Case, Claim, judged, needed, depths, reach, purged, Views, accepted, output, respect, step}

-- the tables at full length, as the calls take them
abbrev pub next : Case → List ℕ
next c = full NEXT_ENTRIES c.next

abbrev pub outputs : Case → List ℕ
outputs c = full OUTPUT_ENTRIES c.outputs

abbrev pub views : Case → List ℕ
views c = full VIEW_ENTRIES c.views

abbrev pub machine : Case → noninterference.Machine
machine c = machine_of c.model.machine (next c) (outputs c)

abbrev pub state : Case → ℕ → Type 0
state c s = s < c.model.machine.sizes.states

abbrev pub policy : Case → Policy
policy c = policy_of c.model

abbrev pub view : Case → ℕ → ℕ → ℕ
view c = view_of c.model.machine (views c)

abbrev pub id_at : Case → ℕ → ℕ
id_at c u = get_or c.model.ids u 0

-- the position of the box with an id
abbrev pub at : Case → ℕ → ℕ
at c id = first c.model.machine.sizes.boxes (λ u. eqb (id_at c u) id)

abbrev Broken : Case → Place → Type 0
Broken c p = FirstBroken intransitive (machine c) (state c) (policy c) (view c) OfAny p

-- the views meet the conditions, or this is the first broken place; and the judge says so
abbrev pub Judged : Case → Views → Type 0
Judged c accepted =
    Conditions intransitive (machine c) (state c) (policy c) (ByView (view c))
    × (judgement_of c.model (next c) (outputs c) (views c) ≡ judging.accepted)
Judged c (output id a s t) =
    Broken c (places.output a s t) × (id_at c (owner_at c.model.machine a) ≡ id)
    × (judgement_of c.model (next c) (outputs c) (views c) ≡ Err (Output a s t))
Judged c (respect id a s) =
    Broken c (places.respect (at c id) a s) × (id_at c (at c id) ≡ id)
    × (judgement_of c.model (next c) (outputs c) (views c) ≡ Err (Respect (at c id) a s))
Judged c (step id a s t) =
    Broken c (places.step (at c id) a s t) × (id_at c (at c id) ≡ id)
    × (judgement_of c.model (next c) (outputs c) (views c) ≡ Err (Step (at c id) a s t))

-- the box at each end of an arrow that is given by ids
abbrev pub arrows_of : Case → List (ℕ × ℕ) → List Arrow
arrows_of c [] = []
arrows_of c (p ∷ ps) = arrow (at c p.0) (at c p.1) ∷ arrows_of c ps

abbrev pub IdsKnown : Case → List (ℕ × ℕ) → Type 0
IdsKnown c [] = Unit {0}
IdsKnown c (p ∷ ps) = (id_at c (at c p.0) ≡ p.0) × (id_at c (at c p.1) ≡ p.1) × IdsKnown c ps

-- what the needed-arrow call answers, with a list of the right length that holds anything
abbrev answered : Case → List ℕ → Result Needs Refused
answered c l = needed_of c.model.machine (next c) (outputs c) l

-- these are the needed arrows; and the call writes them and counts them
abbrev pub NeedsThese : Case → List (ℕ × ℕ) → Type 0
NeedsThese c ps =
    NeededList (machine c) (arrows_of c ps) × IdsKnown c ps
    × ((l : List ℕ) → length l ≡ LIST_ENTRIES →
    (list_of c.model.machine (next c) (outputs c) l ≡ padded (arrows_of c ps))
    × (get_or (told (answered c l)) 2 0 ≡ length ps))

-- these are the boxes' depths; and the call answers them, and 0 beyond the last box
abbrev pub DepthsAre : Case → List ℕ → Type 0
DepthsAre c ds =
    ((u : ℕ) → u < c.model.machine.sizes.boxes → Depth (machine c) u (get_or ds u 0))
    × ((l : List ℕ) → length l ≡ LIST_ENTRIES → IsOkAnd (answered c l) (λ n. n.depths ≡ full BOXES ds))

-- so many states are reachable; and the call counts them
abbrev pub ReachIs : Case → ℕ → Type 0
ReachIs c n =
    ((inside : ℕ → Bool) → Reach (machine c) inside → count c.model.machine.sizes.states inside ≡ n)
    × ((l : List ℕ) → length l ≡ LIST_ENTRIES → get_or (told (answered c l)) 3 0 ≡ n)

-- the purge keeps exactly that; and the call writes it, whatever the buffer held
abbrev pub Purged : Case → List ℕ → ℕ → List ℕ → Type 0
Purged c run id kept =
    (purge (keeps intransitive (owner_at c.model.machine) (policy c) (at c id)) run ≡ kept)
    × ((b : List ℕ) → length b ≡ length run →
    purged_of c.model Intransitive (at c id) run b ≡ written kept (length run))

abbrev pub Holds : Case → Claim → Type 0
Holds c (judged v) = Judged c v
Holds c (needed ps) = NeedsThese c ps
Holds c (depths ds) = DepthsAre c ds
Holds c (reach n) = ReachIs c n
Holds c (purged run id kept) = Purged c run id kept

abbrev pub AllHold : Case → List Claim → Type 0
AllHold c [] = Unit {0}
AllHold c (x ∷ xs) = Holds c x × AllHold c xs

abbrev pub AllMeet : List Case → Type 0
AllMeet [] = Unit {0}
AllMeet (c ∷ cs) = AllHold c c.claims × AllMeet cs
