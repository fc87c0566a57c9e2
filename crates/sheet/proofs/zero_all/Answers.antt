-- `sheet::zero_all` meets its contract. Assumes nothing.
use Rattle.std.proofs.Common.{◌≡◌, ℕ, ◌<◌, List, length, get_or, replicate, refl, sym, ◌∙◌, arith}
use Rattle.std.proofs.lemmas.List.{same_lists, length-replicate, get_or-replicate}
use Rattle.sheet.specs.Reading.{zeros}
use Rattle.sheet.proofs.zero_all.Goals as goal

-- a list of zeros, told place by place
all_zero : (xs : List ℕ) (n : ℕ) → length xs ≡ n → ((k d : ℕ) → k < n → get_or xs k d ≡ 0) → xs ≡ zeros n
unfolding zeros
all_zero xs n e h = same_lists xs (replicate n 0) (e ∙ sym (length-replicate n 0)) (λ k d l. h k d (omega arith) ∙ sym (get_or-replicate n k 0 d (omega arith)))

pub returns : goal.returns
returns c =
    let a = c.fill.ensures in
    let b = c.fill-2.ensures in
    let d = c.fill-3.ensures in (
      all_zero c.fill.new.self _ (omega (arith, a.len)) (λ k e l. a.clones k e (omega arith) refl),
      all_zero c.fill-2.new.self _ (omega (arith, b.len)) (λ k e l. b.clones k e (omega arith) refl),
      all_zero c.fill-3.new.self _ (omega (arith, d.len)) (λ k e l. d.clones k e (omega arith) refl),
    )
