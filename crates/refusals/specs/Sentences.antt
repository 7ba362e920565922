-- What a refusal and a mistake mean.
use Rattle.std.specs.Prelude.{ℕ, cond, List, ◌==◌}
use Rattle.lines.specs.declared.cursor.Mistake.{Mistake}
use Rattle.lines.specs.declared.cursor.Mistake.TheVariants.{None, UnknownWord, UnknownOperation, NumberMissing, NumberTooLarge, ColonMissing, AudioMissing, LengthMissing, ToMissing, TitleMissing, TitleOpen, TitleEmpty, TitleTooLong, TitleUnprintable, TooManyOperations, TooManyNumbers, TooMuch}
use Rattle.lines.specs.Words.{bytes_of}

-- what a refusal means, by its number in documents 01 and 02
unfoldable pub refusal_sentence : ℕ → List ℕ
refusal_sentence n =
    cond (n == 1) (bytes_of "a memory has another length")
    (cond (n == 2) (bytes_of "there is no system yet, or its memory is not of the layout")
    (cond (n == 3) (bytes_of "no such session or studio")
    (cond (n == 4) (bytes_of "a read of this session is waiting; collect it first")
    (cond (n == 5) (bytes_of "a commit has one to eight operations")
    (cond (n == 6) (bytes_of "an operation is out of form: cart 1 to 128, title of 1 to 64 letters, audio and length at least 1")
    (cond (n == 7) (bytes_of "the log has no room for these operations until edits are retired, or all 65,535 edit numbers are used")
    (cond (n == 8) (bytes_of "an operation meets its cart in the wrong state: new asks for an empty cart, the others for a held one")
    (cond (n == 9) (bytes_of "every edit has been sent to this studio")
    (cond (n == 10) (bytes_of "32 edits have been sent to this studio and not applied")
    (cond (n == 11) (bytes_of "this studio has applied all that was sent to it")
    (cond (n == 12) (bytes_of "the request is out of form: 1 to 32 carts from 1 to 128, or a title of 1 to 64 letters")
    (cond (n == 13) (bytes_of "the output has no room for the carts asked for")
    (cond (n == 14) (bytes_of "no read of this session is waiting")
    (cond (n == 15) (bytes_of "a system has 1 to 4 studios, and each session one of them or 0")
    (cond (n == 16) (bytes_of "the title begins or ends with a space")
    (cond (n == 17) (bytes_of "there is no such edit, or a message or the van's copy is out of form")
    (cond (n == 18) (bytes_of "the van has not applied the edit before this one")
    (cond (n == 19) (bytes_of "a copy is not what the log's edits make, or an operation in the log met its cart in the wrong state")
    (cond (n == 20) (bytes_of "the log has no edit to retire, or a studio has not applied the oldest one; refresh that studio first")
    (cond (n == 21) (bytes_of "the edit is retired, and its message can no longer be written")
    (bytes_of "unknown")))))))))))))))))))))

-- what is wrong with a line
abbrev pub mistake_sentence : Mistake → List ℕ
mistake_sentence None = bytes_of "nothing is wrong"
mistake_sentence UnknownWord = bytes_of "the line begins with none of setup, commit, preview, send, refresh, read, collect, forward, move, load, retire, van, show"
mistake_sentence UnknownOperation = bytes_of "an operation begins with new, retitle, re-cut or withdraw"
mistake_sentence NumberMissing = bytes_of "a number is missing"
mistake_sentence NumberTooLarge = bytes_of "a number is too large"
mistake_sentence ColonMissing = bytes_of "a colon is missing"
mistake_sentence AudioMissing = bytes_of "the word audio is missing"
mistake_sentence LengthMissing = bytes_of "the word length is missing"
mistake_sentence ToMissing = bytes_of "the word to is missing"
mistake_sentence TitleMissing = bytes_of "a title in quotes is missing"
mistake_sentence TitleOpen = bytes_of "a title's closing quote is missing"
mistake_sentence TitleEmpty = bytes_of "a title is empty"
mistake_sentence TitleTooLong = bytes_of "a title has more than 255 letters"
mistake_sentence TitleUnprintable = bytes_of "a title has a byte that is not printable (32 to 126)"
mistake_sentence TooManyOperations = bytes_of "there are more than eight operations"
mistake_sentence TooManyNumbers = bytes_of "there are too many numbers"
mistake_sentence TooMuch = bytes_of "there is more on the line than the call takes"
