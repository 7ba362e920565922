-- STATEMENT. Document 01, "Table to be proved": the twelve cases, each a call with the answer and the output that it must have.
use Rattle.std.specs.Prelude.{◌≡◌, List, [], ◌∷◌, ◌++◌, map, ℕ, ◌-◌, length, set, replicate}
use Rattle.carts.specs.Bytes.{zeros, u32}
use Rattle.carts.specs.Cart.{cart_size, title_size, audio_at, cart_at}
use Rattle.carts.specs.Transaction.{Transaction, L}
use Rattle.replication.specs.Answer.{refused, done, waits, answered}
use Rattle.replication.specs.Call.{Call, commit, send, refresh, read, collect}
use Rattle.machine.specs.OneCopy.{Event, event}

-- "S = 2; sessions 1 and 2 at studio 1, session 3 at studio 2": the studio bytes
unfoldable pub studio_bytes : List ℕ
studio_bytes = 1 ∷ 1 ∷ 2 ∷ zeros 13

-- "Top hour A"; case 11's "titles of 64 bytes that differ in the last byte": 63 letters a, then the last byte
unfoldable pub top_hour_a : List ℕ
top_hour_a = 84 ∷ 111 ∷ 112 ∷ 32 ∷ 104 ∷ 111 ∷ 117 ∷ 114 ∷ 32 ∷ 65 ∷ []

unfoldable pub long_title : ℕ → List ℕ
long_title last = replicate 63 97 ++ (last ∷ [])

-- bytes 16–79: a title, or the cart numbers of a request, then zeros
unfoldable pub payload : List ℕ → List ℕ
payload s = s ++ zeros (title_size - length s)

-- "new cart c, .., audio 501, 8,000 ms": 501 is 245 + 256, 8,000 is 64 + 31 × 256. The held cart that it makes has the same bytes.
unfoldable pub new : ℕ → List ℕ → List ℕ
new c title = 1 ∷ length title ∷ c ∷ 0 ∷ 245 ∷ 1 ∷ 0 ∷ 0 ∷ 64 ∷ 31 ∷ 0 ∷ 0 ∷ zeros 4 ++ payload title

-- "A is new cart 7, "Top hour A""; "withdraw 7"
unfoldable pub A : List ℕ
A = new 7 top_hour_a

unfoldable pub withdraw7 : List ℕ
withdraw7 = 4 ∷ 0 ∷ 7 ∷ zeros 77

-- the requests: a read of one cart, "reads [7]", and "a title read"
unfoldable pub cart_read : ℕ → List ℕ
cart_read c = 1 ∷ 1 ∷ zeros 14 ++ payload (c ∷ [])

unfoldable pub seven : List ℕ
seven = cart_read 7

unfoldable pub title_read : List ℕ → List ℕ
title_read t = 2 ∷ length t ∷ zeros 14 ++ payload t

-- the output lent, two bytes longer than a cart; and as it stands with a cart written to it
unfoldable pub buffer : List ℕ
buffer = replicate 82 255

unfoldable pub holding : List ℕ → List ℕ
holding cart = cart ++ (255 ∷ 255 ∷ [])

-- "Cases marked + follow the one above."
unfoldable pub cases2to10 : List Event
cases2to10 =
    -- 2. "Fresh, session 1 commits A: 1."
    event (commit 1 A) (done 1) []
    -- 3. "session 1 reads [7]: waits, 1."
    ∷ event (read 1 seven buffer) (waits 1) buffer
    -- 4. "session 2 reads [7]: state 0, found 0."
    ∷ event (read 2 seven buffer) (answered 0 0) (holding (zeros 80))
    -- 5. "session 1 commits A: 4."
    ∷ event (commit 1 A) (refused 4) []
    -- 6. "refresh 1: 11."
    ∷ event (refresh 1) (refused 11) []
    -- 7. "send 1, refresh 1, collect session 1: state 1, found 1, audio 501."
    ∷ event (send 1) (done 1) [] ∷ event (refresh 1) (done 1) []
    ∷ event (collect 1 buffer) (answered 1 1) (holding A)
    -- 8. "session 1 commits A: 8."
    ∷ event (commit 1 A) (refused 8) []
    -- 9. "session 1 commits [withdraw 7, A]: 2."
    ∷ event (commit 1 (withdraw7 ++ A)) (done 2) []
    -- 10. "session 1 commits [new 8, new 8]: 8"
    ∷ event (commit 1 (new 8 top_hour_a ++ new 8 top_hour_a)) (refused 8) []
    ∷ []

unfoldable pub case11 : List Event
case11 =
    -- 11. "Title length 65: 6"
    event (commit 1 (set (new 1 (long_title 49)) 1 65)) (refused 6) []
    -- "titles of 64 bytes that differ in the last byte (the digits 1 and 2): a title read finds 1 for each."
    ∷ event (commit 1 (new 1 (long_title 49) ++ new 2 (long_title 50))) (done 1) []
    ∷ event (send 1) (done 1) [] ∷ event (refresh 1) (done 1) []
    ∷ event (read 1 (title_read (long_title 49)) buffer) (answered 1 1) (holding (new 1 (long_title 49)))
    ∷ event (read 1 (title_read (long_title 50)) buffer) (answered 1 1) (holding (new 2 (long_title 50)))
    ∷ []

unfoldable pub case12 : List Event
case12 =
    -- 12. "Two carts with one title: found 2, zeros."
    event (commit 1 (new 1 top_hour_a ++ new 2 top_hour_a)) (done 1) []
    ∷ event (send 1) (done 1) [] ∷ event (refresh 1) (done 1) []
    ∷ event (read 1 (title_read top_hour_a) buffer) (answered 1 2) (holding (zeros 80))
    ∷ []

-- the calls of a list of events
abbrev pub calls_of : List Event → List Call
calls_of es = map (λ (e : Event). e.call) es

-- of any system: its history of each list of calls from the start, and its log after cases 2 to 10
pub record Table (history : List Call → List Event) (log : List Transaction) : Type 0 where
  -- 1. "Fresh, session 1 reads [7]: state 0, found 0, zeros."
  pub fresh : history (read 1 seven buffer ∷ []) ≡ event (read 1 seven buffer) (answered 0 0) (holding (zeros 80)) ∷ []
  pub followed : history (calls_of cases2to10) ≡ cases2to10
  -- 7. ".. audio 501"
  pub audio : u32 A audio_at ≡ 501
  -- 10. ".. and cart 8 is empty in L(2)."
  pub empty : cart_at (L log 2) 8 ≡ zeros cart_size
  pub long_titles : history (calls_of case11) ≡ case11
  pub one_title : history (calls_of case12) ≡ case12
