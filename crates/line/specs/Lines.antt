-- Document 01, "Numbers for what is refused": the line that the program prints, a word, six numbers and one line feed. The last
-- number, the excess, is request 4's.
-- Assumes nothing.
use Rattle.std.specs.Prelude.{ℕ, List, [], ◌∷◌, ◌++◌}
use Rattle.line.specs.declared.Word.{Word}
use Rattle.line.specs.declared.Word.TheVariants.{Accepted, Refused, Unread}
use Rattle.line.specs.declared.Line.{Line}
use Rattle.line.specs.Ascii.{ascii}
use Rattle.line.specs.Decimals.{decimal_of}

abbrev pub word_of : Word → List ℕ
word_of Accepted = ascii "accepted"
word_of Refused = ascii "refused"
word_of Unread = ascii "unread"

-- a space and a number
abbrev pub field : ℕ → List ℕ
field n = 32 ∷ decimal_of n

unfoldable pub line_of : Line → List ℕ
line_of l =
    word_of l.word
    ++ field l.count
    ++ field l.number
    ++ field l.clock
    ++ field l.phase
    ++ field l.gear_box
    ++ field l.excess
    ++ 10 ∷ []
