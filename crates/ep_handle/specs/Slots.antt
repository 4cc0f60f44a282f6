-- What a slot owns: what a box of its kernel would, or nothing.
use base.Fml.{Fml, ftrue}
use denote.RawPtr.{Ptr}
use Rattle.std.specs.Prelude.{Option, None, Some}
use Rattle.std.specs.Box.Ownership.{box_owns}
use Rattle.std.specs.Global.{Global}
use Rattle.std_heap.specs.contracts.GlobalAllocator.TheImpl.{ghosts}
use Rattle.ep_kernel.specs.contracts.ready.ReadyKernel.{the_row}

abbrev pub slot_owns : Global → Ptr → Option the_row.Denot → Fml
slot_owns alloc at None = ftrue
slot_owns alloc at (Some kernel) = box_owns (ghosts.dealloc_token alloc) the_row at kernel
