-- The derived equality of kinds is that of the contracts.
use Rattle.std.proofs.Common.{◌≡◌, refl}
use denote.Enum.Bare.{sameb}
use Rattle.journal.specs.contracts.history.Kind.{the_type}
use Rattle.journal.specs.declared.history.Kind.{Kind}
use Rattle.journal.specs.declared.history.Kind.TheVariants.{Commit, Read, Refused}
use Rattle.journal.specs.History.{is_kind}

pub same_kind : (a b : Kind) → sameb the_type a b ≡ is_kind a b
same_kind Commit Commit = refl
same_kind Commit Read = refl
same_kind Commit Refused = refl
same_kind Read Commit = refl
same_kind Read Read = refl
same_kind Read Refused = refl
same_kind Refused Commit = refl
same_kind Refused Read = refl
same_kind Refused Refused = refl
