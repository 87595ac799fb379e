-- `first_word` meets its contract: blanks, then a word, then the rest.
-- Assumes nothing.
use mathlib.Core.Path.{◌≡◌, ap, ◌∙◌}
use Prim.Native.Nat.{◌-◌}
use lib.ListN.{length, take, drop}
use borrow.Author.Rules.{part_to_end}
use Rattle.tablewords.specs.declared.Class.TheVariants.{Blank, Letter}
use Rattle.tablewords.specs.Words.{leading, past}
use Rattle.tablewords.proofs.WordLaws.{counted, take-leading, drop-leading}
use Rattle.tablewords.proofs.first_word.Goals as goal

-- what stands behind the blanks, and how long its word is
text : (c : goal.After-split_at)
    → take (length c.args.line.now - c.leading-from.result) (drop c.leading-from.result c.args.line.now) ≡ past Blank c.args.line.now
text c =
    let l = c.args.line.now in
    let from = c.leading-from in
    part_to_end l from.result
    ∙ ap (λ n. drop n l) (counted _ Blank (λ b r h. h) l from.result from.ensures)
    ∙ drop-leading Blank l

size : (c : goal.After-split_at) → c.leading-size.result ≡ length (leading Letter (past Blank c.args.line.now))
size c =
    let size = c.leading-size in
    counted _ Letter (λ b r h. h) _ size.result size.ensures ∙ ap (λ l. length (leading Letter l)) (text c)

pub returns-clause-word : goal.returns-clause-word
returns-clause-word c = rw (c.split_at.ensures.front, text c, size c) (take-leading Letter (past Blank c.args.line.now))

pub returns-clause-behind : goal.returns-clause-behind
returns-clause-behind c = rw (c.split_at.ensures.back, text c, size c) (drop-leading Letter (past Blank c.args.line.now))
