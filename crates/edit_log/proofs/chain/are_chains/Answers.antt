use Rattle.std.proofs.Common.{sym, ap, ◌∙◌}
use Rattle.edit_log.specs.declared.chain.Unmet.{Unmet}
use Rattle.edit_log.proofs.BoolLaws.{so_not}
use Rattle.edit_log.proofs.WholeLaws.{chains_many, chains_log, chains_free, chains_is}
use Rattle.edit_log.proofs.chain.are_chains.Goals.{then-meet_log, else-meet_log}
use Rattle.edit_log.proofs.chain.are_chains.Goals as goal

pub returns-then-used-gt-COUNT : goal.returns-then-used-gt-COUNT
returns-then-used-gt-COUNT c = chains_many _ _ _ _ _ _ c.if-used-gt-COUNT.true

pub returns-then-meet_free : goal.returns-then-meet_free
returns-then-meet_free c =
    let g = c.args in
    let own = c.meet_log.ensures in
    elim c.if-meet_log.branch [
      | then-meet_log w ↦ let ok = w.if-meet_log.true in
          let free = w.meet_free.ensures in
          let all = sym w.value-is ∙ c.if-meet_free.true in
          c.is_empty.ensures ∙ chains_is g.transactions g.log.now g.used g.oldest g.first g.last c.if-used-gt-COUNT.false _ own.0 ok _ (own.1 ok) _ free.0 all _ (ap (λ (u : Unmet). u.left) w.unmet-is ∙ free.1 all)
      | else-meet_log w ↦ absurd (so_not _ (w.value-is ∙ w.if-meet_log.false) c.if-meet_free.true)
    ]

pub returns-else-meet_free : goal.returns-else-meet_free
returns-else-meet_free c =
    let g = c.args in
    let own = c.meet_log.ensures in
    c.if-meet_free.false
    ∙ elim c.if-meet_log.branch [
      | then-meet_log w ↦ let ok = w.if-meet_log.true in
          let free = w.meet_free.ensures in
          let none = sym w.value-is ∙ c.if-meet_free.false in
          chains_free g.transactions g.log.now g.used g.oldest g.first g.last c.if-used-gt-COUNT.false _ own.0 ok _ (own.1 ok) _ free.0 none
      | else-meet_log w ↦ chains_log g.transactions g.log.now g.used g.oldest g.first g.last c.if-used-gt-COUNT.false _ own.0 w.if-meet_log.false
    ]
