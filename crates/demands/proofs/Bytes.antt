-- The verdict's bytes tell what `told` says, and nothing else has the same bytes.
-- Assumes nothing.
use mathlib.Core.Path.{◌≡◌, refl, sym, ap, ap₂, ◌∙◌}
use mathlib.Core.Logic.{◌≢◌}
use mathlib.Core.Bool.{Bool, true}
use mathlib.Core.List.{List, [], ◌∷◌, ◌++◌, append_assoc, append-nil}
use Prim.Native.Nat.{ℕ, zero, suc, ◌+◌, ◌*◌, ◌<◌, ◌≤◌}
use native.Mathlib.Omega.{arith}
use lib.Dec.{ltb}
use lib.ListN.{length, get_or}
use borrow.Author.Tests.{ltb-true}
use Rattle.laws.specs.Choice.{both}
use Rattle.laws.specs.Range.{tabulate}
use Rattle.laws.proofs.Tests.{both_true}
use Rattle.noninterference.specs.Needed.{Arrow}
use Rattle.text.specs.Number.{decimal}
use Rattle.needs.specs.Listed.{flat}
use Rattle.cases.specs.Cases.{Views, accepted, output, respect, step}
use Rattle.zarpalume.specs.Words as words
use Rattle.zarpalume.specs.Lines.{line, need_lines, depth_lines}
use Rattle.demands.specs.Told.{Told, refused, judgement, id_at, arrows_by}
use Rattle.demands.specs.Printed.{Row, text}
use Rattle.demands.proofs.Rows.{Plain, PlainRow, PlainRows, text_append, decimal_plain, decimal_once}

-- ---- the rows of a verdict
unfoldable pub views_row : Views → Row
views_row accepted = words.views ∷ words.accepted ∷ []
views_row (output id a s t) = words.views ∷ words.broken ∷ words.output ∷ decimal id ∷ decimal a ∷ decimal s ∷ decimal t ∷ []
views_row (respect id a s) = words.views ∷ words.broken ∷ words.respect ∷ decimal id ∷ decimal a ∷ decimal s ∷ words.dash ∷ []
views_row (step id a s t) = words.views ∷ words.broken ∷ words.step ∷ decimal id ∷ decimal a ∷ decimal s ∷ decimal t ∷ []

unfoldable pub pair_row : List ℕ → ℕ × ℕ → Row
pair_row word p = word ∷ decimal p.0 ∷ decimal p.1 ∷ []

unfoldable pub pair_rows : List ℕ → List (ℕ × ℕ) → List Row
pair_rows word [] = []
pair_rows word (p ∷ ps) = pair_row word p ∷ pair_rows word ps

unfoldable pub reach_row : ℕ → Row
reach_row n = words.reach ∷ decimal n ∷ []

unfoldable pub rows_of : Told → List Row
rows_of (refused n l) = (words.refused ∷ decimal n ∷ decimal l ∷ []) ∷ []
rows_of (judgement v needed depths reach) =
    views_row v ∷ (pair_rows words.need needed ++ (pair_rows words.depth depths ++ (reach_row reach ∷ [])))

-- ---- the needed lines: the list's pairs, one after the other
needs_shift : (ids list : List ℕ) (a b n : ℕ) →
    need_lines ids (a ∷ b ∷ list) (suc n) ≡ line (pair_row words.need (id_at ids a, id_at ids b)) ++ need_lines ids list n
unfolding need_lines pair_row
needs_shift ids list a b zero = sym (append-nil _)
needs_shift ids list a b (suc n) =
    let e : 2 * suc n ≡ suc (suc (2 * n)) = omega arith in
    let f : 2 * suc n + 1 ≡ suc (suc (2 * n + 1)) = omega arith in
    ap₂ (λ xs ys. xs ++ ys) (needs_shift ids list a b n)
    (ap₂ (λ i j. line (words.need ∷ decimal (id_at ids (get_or (a ∷ b ∷ list) i 0)) ∷ decimal (id_at ids (get_or (a ∷ b ∷ list) j 0)) ∷ [])) e f)
    ∙ append_assoc (line (pair_row words.need (id_at ids a, id_at ids b))) (need_lines ids list n)
    (line (words.need ∷ decimal (id_at ids (get_or list (2 * n) 0)) ∷ decimal (id_at ids (get_or list (2 * n + 1) 0)) ∷ []))

pub needs_text : (ids rest : List ℕ) (l : List Arrow) → need_lines ids (flat l ++ rest) (length l) ≡ text (pair_rows words.need (arrows_by ids l))
unfolding need_lines flat text pair_rows arrows_by
needs_text ids rest [] = refl
needs_text ids rest (x ∷ xs) =
    needs_shift ids (flat xs ++ rest) x.source x.target (length xs)
    ∙ ap (λ t. line (pair_row words.need (id_at ids x.source, id_at ids x.target)) ++ t) (needs_text ids rest xs)

pairs_append : (word : List ℕ) (ps qs : List (ℕ × ℕ)) → pair_rows word (ps ++ qs) ≡ pair_rows word ps ++ pair_rows word qs
unfolding pair_rows
pairs_append word [] qs = refl
pairs_append word (p ∷ ps) qs = ap (λ rs. pair_row word p ∷ rs) (pairs_append word ps qs)

-- ---- the depth lines, where the list has the depths
pub depths_text : (ids depths : List ℕ) (depth : ℕ → ℕ) (n : ℕ) → ((u : ℕ) → u < n → get_or depths u 0 ≡ depth u) →
    depth_lines ids depths n ≡ text (pair_rows words.depth (tabulate n λ u. (id_at ids u, depth u)))
unfolding depth_lines text pair_rows pair_row tabulate
depths_text ids depths depth zero h = refl
depths_text ids depths depth (suc n) h =
    ap₂ (λ xs d. xs ++ line (words.depth ∷ decimal (id_at ids n) ∷ decimal d ∷ [])) (depths_text ids depths depth n (λ u l. h u (omega arith))) (h n (omega arith))
    ∙ sym (ap text (pairs_append words.depth (tabulate n λ u. (id_at ids u, depth u)) ((id_at ids n, depth n) ∷ []))
    ∙ text_append (pair_rows words.depth (tabulate n λ u. (id_at ids u, depth u))) (pair_row words.depth (id_at ids n, depth n) ∷ [])
    ∙ ap (λ t. text (pair_rows words.depth (tabulate n λ u. (id_at ids u, depth u))) ++ t) (append-nil _))

-- ---- every row is plain
unfoldable pub is_plain : List ℕ → Bool
is_plain [] = true
is_plain (x ∷ xs) = both (ltb 10 x) (is_plain xs)

pub plain_of : (xs : List ℕ) → is_plain xs ≡ true → Plain xs
unfolding is_plain
plain_of [] e = tt
plain_of (x ∷ xs) e = let b = both_true _ _ e in (ltb-true _ _ b.0, plain_of xs b.1)

pub views_plain : (v : Views) → PlainRow (views_row v)
unfolding views_row is_plain both
views_plain accepted = (plain_of words.views refl, plain_of words.accepted refl)
views_plain (output id a s t) =
    (plain_of words.views refl, (plain_of words.broken refl, (plain_of words.output refl, (decimal_plain id, (decimal_plain a, (decimal_plain s, decimal_plain t))))))
views_plain (respect id a s) =
    (plain_of words.views refl, (plain_of words.broken refl, (plain_of words.respect refl, (decimal_plain id, (decimal_plain a, (decimal_plain s, plain_of words.dash refl))))))
views_plain (step id a s t) =
    (plain_of words.views refl, (plain_of words.broken refl, (plain_of words.step refl, (decimal_plain id, (decimal_plain a, (decimal_plain s, decimal_plain t))))))

pairs_plain : (word : List ℕ) → Plain word → (ps : List (ℕ × ℕ)) (rs : List Row) → PlainRows rs → PlainRows (pair_rows word ps ++ rs)
unfolding pair_rows pair_row
pairs_plain word w [] rs h = h
pairs_plain word w (p ∷ ps) rs h = ((w, (decimal_plain p.0, decimal_plain p.1)), pairs_plain word w ps rs h)

pub rows_plain : (x : Told) → PlainRows (rows_of x)
unfolding rows_of reach_row is_plain both
rows_plain (refused n l) = ((plain_of words.refused refl, (decimal_plain n, decimal_plain l)), tt)
rows_plain (judgement v needed depths reach) = (
  views_plain v,
  pairs_plain words.need (plain_of words.need refl) needed _
      (pairs_plain words.depth (plain_of words.depth refl) depths _ ((plain_of words.reach refl, decimal_plain reach), tt)),
)

-- ---- numbers that fit 32 bits
abbrev pub LARGEST : ℕ
LARGEST = 4294967295

abbrev pub SmallViews : Views → Type 0
SmallViews accepted = Unit {0}
SmallViews (output id a s t) = (id ≤ LARGEST) × (a ≤ LARGEST) × (s ≤ LARGEST) × (t ≤ LARGEST)
SmallViews (respect id a s) = (id ≤ LARGEST) × (a ≤ LARGEST) × (s ≤ LARGEST)
SmallViews (step id a s t) = (id ≤ LARGEST) × (a ≤ LARGEST) × (s ≤ LARGEST) × (t ≤ LARGEST)

abbrev pub SmallPairs : List (ℕ × ℕ) → Type 0
SmallPairs [] = Unit {0}
SmallPairs (p ∷ ps) = ((p.0 ≤ LARGEST) × (p.1 ≤ LARGEST)) × SmallPairs ps

abbrev pub Small : Told → Type 0
Small (refused n l) = (n ≤ LARGEST) × (l ≤ LARGEST)
Small (judgement v needed depths reach) = SmallViews v × SmallPairs needed × SmallPairs depths × (reach ≤ LARGEST)

-- ---- the rows fix what is told
-- field k of a row
abbrev pub field : ℕ → Row → List ℕ
field k r = get_or r k []

-- the first byte of the first field of the first row
abbrev first : List Row → ℕ
first rs = get_or (field 0 (get_or rs 0 [])) 0 0

number_once : {r q : Row} (k v w : ℕ) → v ≤ LARGEST → w ≤ LARGEST → r ≡ q → field k r ≡ decimal v → field k q ≡ decimal w → v ≡ w
number_once k v w hv hw e a b = decimal_once v w hv hw (sym a ∙ ap (field k) e ∙ b)

pair_once : (word : List ℕ) (p q : ℕ × ℕ) → (p.0 ≤ LARGEST) × (p.1 ≤ LARGEST) → (q.0 ≤ LARGEST) × (q.1 ≤ LARGEST) → pair_row word p ≡ pair_row word q → p ≡ q
unfolding pair_row
pair_once word (a, b) (c, d) hp hq e =
    ap₂ (λ x y. (x, y)) (number_once 1 a c hp.0 hq.0 e refl refl) (number_once 2 b d hp.1 hq.1 e refl refl)

row_head : {r q : Row} {rs qs : List Row} → ◌≡◌ {A = List Row} (r ∷ rs) (q ∷ qs) → r ≡ q
row_head e = cc

row_tail : {r q : Row} {rs qs : List Row} → ◌≡◌ {A = List Row} (r ∷ rs) (q ∷ qs) → rs ≡ qs
row_tail e = cc

-- pairs under one word, followed by what starts with another
pairs_once : (x : ℕ) (word : List ℕ) (ps qs : List (ℕ × ℕ)) (rs os : List Row) → SmallPairs ps → SmallPairs qs →
    first rs ≢ x → first os ≢ x → pair_rows (x ∷ word) ps ++ rs ≡ pair_rows (x ∷ word) qs ++ os → (ps ≡ qs) × (rs ≡ os)
unfolding pair_rows pair_row
pairs_once x word [] [] rs os hp hq hr ho e = (refl, e)
pairs_once x word [] (q ∷ qs) rs os hp hq hr ho e = absurd (hr (ap first e))
pairs_once x word (p ∷ ps) [] rs os hp hq hr ho e = absurd (ho (ap first (sym e)))
pairs_once x word (p ∷ ps) (q ∷ qs) rs os hp hq hr ho e =
    let t = pairs_once x word ps qs rs os hp.1 hq.1 hr ho (row_tail e) in
    (ap₂ (λ y ys. y ∷ ys) (pair_once (x ∷ word) p q hp.0 hq.0 (row_head e)) t.0, t.1)

-- two rows whose fields k start with different bytes
pub apart {ℓ} : {X : Type ℓ} {r q : Row} (k : ℕ) → r ≡ q → get_or (field k r) 0 0 ≢ get_or (field k q) 0 0 → X
apart k e n = absurd (n (ap (λ r. get_or (field k r) 0 0) e))

pub views_once : (v w : Views) → SmallViews v → SmallViews w → views_row v ≡ views_row w → v ≡ w
unfolding views_row
views_once accepted accepted hv hw e = refl
views_once accepted (output id a s t) hv hw e = apart 1 e (λ z. omega arith)
views_once accepted (respect id a s) hv hw e = apart 1 e (λ z. omega arith)
views_once accepted (step id a s t) hv hw e = apart 1 e (λ z. omega arith)
views_once (output id a s t) accepted hv hw e = apart 1 e (λ z. omega arith)
views_once (output id a s t) (output jd b u w) hv hw e =
    let i = number_once 3 id jd hv.0 hw.0 e refl refl in let j = number_once 4 a b hv.1 hw.1 e refl refl in
    let k = number_once 5 s u hv.2 hw.2 e refl refl in let l = number_once 6 t w hv.3 hw.3 e refl refl in
    rw (i, j, k, l) refl
views_once (output id a s t) (respect jd b u) hv hw e = apart 2 e (λ z. omega arith)
views_once (output id a s t) (step jd b u w) hv hw e = apart 2 e (λ z. omega arith)
views_once (respect id a s) accepted hv hw e = apart 1 e (λ z. omega arith)
views_once (respect id a s) (output jd b u w) hv hw e = apart 2 e (λ z. omega arith)
views_once (respect id a s) (respect jd b u) hv hw e =
    let i = number_once 3 id jd hv.0 hw.0 e refl refl in let j = number_once 4 a b hv.1 hw.1 e refl refl in
    let k = number_once 5 s u hv.2 hw.2 e refl refl in
    rw (i, j, k) refl
views_once (respect id a s) (step jd b u w) hv hw e = apart 2 e (λ z. omega arith)
views_once (step id a s t) accepted hv hw e = apart 1 e (λ z. omega arith)
views_once (step id a s t) (output jd b u w) hv hw e = apart 2 e (λ z. omega arith)
views_once (step id a s t) (respect jd b u) hv hw e = apart 2 e (λ z. omega arith)
views_once (step id a s t) (step jd b u w) hv hw e =
    let i = number_once 3 id jd hv.0 hw.0 e refl refl in let j = number_once 4 a b hv.1 hw.1 e refl refl in
    let k = number_once 5 s u hv.2 hw.2 e refl refl in let l = number_once 6 t w hv.3 hw.3 e refl refl in
    rw (i, j, k, l) refl

-- a `views` line is none of a refusal
views_first : (v : Views) → 114 ≡ get_or (field 0 (views_row v)) 0 0 → ⊥
unfolding views_row
views_first accepted z = omega arith
views_first (output id a s t) z = omega arith
views_first (respect id a s) z = omega arith
views_first (step id a s t) z = omega arith

-- what starts with depth or reach does not start with need, and what starts with reach not with depth
after_need : (depths : List (ℕ × ℕ)) (reach : ℕ) → first (pair_rows words.depth depths ++ (reach_row reach ∷ [])) ≢ 110
unfolding pair_rows pair_row reach_row
after_need [] reach z = omega arith
after_need (p ∷ ps) reach z = omega arith

pub rows_once : (x y : Told) → Small x → Small y → rows_of x ≡ rows_of y → x ≡ y
unfolding rows_of views_row reach_row
rows_once (refused n l) (refused m k) hx hy e =
    let r = row_head e in
    rw (number_once 1 n m hx.0 hy.0 r refl refl, number_once 2 l k hx.1 hy.1 r refl refl) refl
rows_once (refused n l) (judgement v needed depths reach) hx hy e = apart 0 (row_head e) (λ z. views_first v z)
rows_once (judgement v needed depths reach) (refused n l) hx hy e = apart 0 (row_head e) (λ z. views_first v (sym z))
rows_once (judgement v needed depths reach) (judgement w needed' depths' reach') hx hy e =
    let a = views_once v w hx.0 hy.0 (row_head e) in
    let b = pairs_once 110 _ needed needed' _ _ hx.1 hy.1 (after_need depths reach) (after_need depths' reach') (row_tail e) in
    let c = pairs_once 100 _ depths depths' (reach_row reach ∷ []) (reach_row reach' ∷ []) hx.2 hy.2 (λ z. omega arith) (λ z. omega arith) b.1 in
    let d = number_once 1 reach reach' hx.3 hy.3 (row_head c.1) refl refl in
    rw (a, b.0, c.0, d) refl
