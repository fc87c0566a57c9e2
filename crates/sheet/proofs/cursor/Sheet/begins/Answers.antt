-- `sheet::cursor::Sheet::begins` meets its contract. Assumes nothing.
use Rattle.std.proofs.Common.{◌≡◌, drop, take, length, get_or, sym, ◌∙◌, arith}
use Rattle.text.proofs.Parts.{tail_at, same_as, same_is}
use Rattle.sheet.proofs.OnePass.{word_begins}
use Rattle.sheet.proofs.cursor.Sheet.begins.Goals as goal

pub returns-then-starts_with : goal.returns-then-starts_with
returns-then-starts_with c =
    let rest : c.in-Some.rest.now ≡ drop c.args.at c.args.self.text.now = tail_at c.args.self.text.now c.args.at c.in-Some.rest (rw c.in-Some.is at c.get.ensures.lookup.0) in
    let word : c.args.word.now ≡ take (length c.args.word.now) c.in-Some.rest.now = same_is _ _ (sym (same_as _ _) ∙ sym c.starts_with.ensures.value ∙ c.if-starts_with.true) in
    let last : c.unwrap_or.result ≡ get_or c.in-Some.rest.now (length c.args.word.now) 0 = c.unwrap_or.ensures ∙ (rw c.copied.ensures (c.get-then-starts_with.ensures.lookup.4 (omega arith) 0)) in
    word_begins _ _ _ _ _ rest word last
