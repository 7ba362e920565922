use Rattle.std.proofs.Common.{◌≡◌, ◌≤◌, ◌+◌, ◌-◌, ◌*◌, ◌++◌, drop, replicate}
use Rattle.carts.specs.Title.{titled_in, titled_from, search_answer, letters_from, letters_in}
use Rattle.carts.proofs.titles.search.Given as goal

abbrev pub invariant-loop-c : goal.invariant-loop-c
invariant-loop-c l = let i = l.c - 1 in record {
  few : l.count ≤ i;
  answer : search_answer (titled_in l.title l.copy) ≡ search_answer (replicate l.count l.last ++ titled_from l.title (128 - i) l.c (drop (80 * i) l.copy));
  counted : letters_in l.title l.copy ≡ l.letters + letters_from l.title (128 - i) (drop (80 * i) l.copy);
}
