-- The lines that tell what came of an accepted call.
use Rattle.std.specs.Prelude.{cond, List, ◌++◌, ℕ, ◌-◌, eqb}
use Rattle.lines.specs.Words.{bytes_of}
use Rattle.words.specs.Page.{numbered, count_of}

-- a setup was accepted, and ends the system before it; a refused one leaves it
unfoldable pub fresh_text : ℕ → List ℕ
fresh_text studios = bytes_of "  a fresh system with " ++ count_of studios (bytes_of "studio") ++ bytes_of "\n"

unfoldable pub ended_text : List ℕ
ended_text = bytes_of "  the system before this line ends here\n"

unfoldable pub goes_on_text : List ℕ
goes_on_text = bytes_of "  the system before this line goes on unchanged\n"

-- a commit was accepted
unfoldable pub committed_text : ℕ → List ℕ
committed_text n = numbered "  edit " n ++ bytes_of " is committed\n"

-- a preview was accepted: the number that the commit would have
unfoldable pub previewed_text : ℕ → List ℕ
previewed_text n = numbered "  would be edit " n ++ bytes_of "\n"

-- a send, a refresh was accepted
unfoldable pub sent_text : ℕ → ℕ → List ℕ
sent_text n studio = numbered "  edit " n ++ numbered " is sent to studio " studio ++ bytes_of "\n"

unfoldable pub applied_text : ℕ → ℕ → List ℕ
applied_text n studio = numbered "  edit " n ++ numbered " is applied by studio " studio ++ bytes_of "\n"

-- how many edits a copy is behind the head end
unfoldable pub behind_text : ℕ → List ℕ
behind_text edits = cond (eqb edits 0) (bytes_of ", level with the head end") (numbered ", " edits ++ bytes_of " behind the head end")

-- a read was answered at an edit
unfoldable pub answered_text : ℕ → ℕ → ℕ → List ℕ
answered_text state behind found = numbered "  answered at edit " state ++ behind_text behind ++ numbered ", found " found ++ bytes_of ":\n"

-- a forward was answered "from the head end's copy" (02, S-4), at an edit; that copy is behind nothing
unfoldable pub head_end_text : ℕ → ℕ → List ℕ
head_end_text state found = numbered "  answered by the head end at edit " state ++ numbered ", found " found ++ bytes_of ":\n"

-- a read waits for an edit
unfoldable pub waits_text : ℕ → List ℕ
waits_text n = numbered "  waits for edit " n ++ bytes_of "\n"

-- a read by title found no cart, or more than one
unfoldable pub untitled_text : List ℕ
untitled_text = bytes_of "    no cart has this title\n"

unfoldable pub several_text : ℕ → List ℕ
several_text found = numbered "    " found ++ bytes_of " carts have this title, so none is shown\n"

-- a move was accepted: it "moves a session to another studio, returns that studio" (02, S-7)
unfoldable pub moved_text : ℕ → ℕ → List ℕ
moved_text session studio = numbered "  session " session ++ numbered " is at studio " studio ++ bytes_of "\n"

-- a load was accepted: the wall is tested, and it "returns commits" (02, S-8)
unfoldable pub whole_text : ℕ → List ℕ
whole_text n = numbered "  the wall is whole at edit " n ++ bytes_of "\n"

-- how many of the log's 512 records are free
unfoldable pub free_text : ℕ → List ℕ
free_text free = bytes_of ", " ++ count_of free (bytes_of "record") ++ cond (eqb free 1) (bytes_of " is free\n") (bytes_of " are free\n")

-- a retire was accepted, "returning the count retired" (02, S-9), which is the number of the edit that was retired; with the records that the log
-- uses after it
unfoldable pub retired_text : ℕ → ℕ → List ℕ
retired_text n used = numbered "  edit " n ++ bytes_of " is retired" ++ free_text (512 - used)

-- the van "applies number applied + 1 and returns it", or "answers a number already applied as held" (02, S-6)
unfoldable pub van_applied_text : ℕ → List ℕ
van_applied_text n = numbered "  the van has applied edit " n ++ bytes_of "\n"

unfoldable pub van_holds_text : ℕ → List ℕ
van_holds_text n = numbered "  the van holds edit " n ++ bytes_of " already\n"
