use mathlib.Core.Bool.{and-true}
use Rattle.carts.specs.Bytes.{all}
use Rattle.carts.specs.Cart.{has_audio}
use Rattle.carts.proofs.CartLaws.{no_audio_law}
use Rattle.carts.proofs.cart.is_audio_as_asked.Goals as goal

pub returns : goal.returns
unfolding has_audio all
returns c = simp (c.is_as_asked.ensures, c.u32_at-milliseconds.ensures, c.u32_at-audio.ensures, and-true, no_audio_law c.args.s.now c.requires)
