-- OfLayout is the layout, taken apart by replication's laws, and the lengths of control's arrays.
use Rattle.replication.specs.Memory.{Memory, Arrays}
use Rattle.replication.specs.declared.control.Control.{Control}
use Rattle.replication.proofs.Formed as Parts
use Rattle.replication.proofs.Formed.{Formed}
use Rattle.refinement.specs.Represents.{OfLayout}

module _ (c : Control) (m : Memory) where
  pub arrays : OfLayout c m → Arrays c
  arrays h = h.arrays

  pub formed : OfLayout c m → Formed c m
  formed h = Parts.formed c m h.lengths h.layout

  pub of_layout_law : Arrays c → Formed c m → OfLayout c m
  of_layout_law a f =
      let p = Parts.of_layout_law c m f in
      record { arrays = a; lengths = p.0; layout = p.1 }
