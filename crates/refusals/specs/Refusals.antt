-- The lines that tell why a call is refused, or a line cannot be read.
use Rattle.std.specs.Prelude.{ℕ, Bool, cond, List, ◌++◌}
use Rattle.lines.specs.declared.cursor.Mistake.{Mistake}
use Rattle.lines.specs.Words.{bytes_of}
use Rattle.words.specs.Page.{decimal, numbered, count_of}
use Rattle.refusals.specs.Sentences.{refusal_sentence, mistake_sentence}

-- before the refusal of a preview, and of any other call
unfoldable pub lead_of : Bool → List ℕ
lead_of previews = cond previews (bytes_of "  would be ") (bytes_of "  ")

-- a refusal, by its number
unfoldable pub refusal_text : Bool → ℕ → List ℕ
refusal_text previews n = lead_of previews ++ numbered "refused (" n ++ bytes_of "): " ++ refusal_sentence n ++ bytes_of "\n"

-- refusal 3 of a call that names a session, or a studio
unfoldable pub no_session_text : Bool → ℕ → List ℕ
no_session_text previews session = lead_of previews ++ numbered "refused (3): there is no session " session ++ bytes_of ", or it is unused\n"

unfoldable pub no_studio_text : ℕ → List ℕ
no_studio_text studio = numbered "  refused (3): there is no studio " studio ++ bytes_of "\n"

-- refusal 17 at the van's writer, "a number outside 1 to commits" (02, S-6)
unfoldable pub no_edit_text : ℕ → List ℕ
no_edit_text edit = numbered "  refused (17): there is no edit " edit ++ bytes_of "\n"

-- refusal 21 at the van's writer, "number retired" (02, S-9)
unfoldable pub retired_edit_text : ℕ → List ℕ
retired_edit_text edit = numbered "  refused (21): edit " edit ++ bytes_of " is retired, and its message can no longer be written\n"

-- refusal 18 at the van's receiver, "a number above applied + 1" (02, S-6)
unfoldable pub ahead_text : ℕ → ℕ → List ℕ
ahead_text applied edit = bytes_of "  refused (18): the van has applied " ++ count_of applied (bytes_of "edit") ++ numbered ", and edit " edit ++ bytes_of " is not the next\n"

-- the operation for which a commit is refused, counted from 1, and its cart
unfoldable pub at_operation_text : ℕ → ℕ → List ℕ
at_operation_text i cart = numbered "    it is operation " i ++ numbered " of the commit, on cart " cart ++ bytes_of "\n"

-- a line that cannot be read
unfoldable pub unreadable_text : ℕ → ℕ → Mistake → List ℕ
unreadable_text line column mistake =
    numbered "  line " line ++ bytes_of ", column " ++ decimal column ++ bytes_of " cannot be read: " ++ mistake_sentence mistake ++ bytes_of "\n"
