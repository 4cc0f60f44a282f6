-- A slot may be used by any thread, one at a time, as its kernel and the heap may.
use mir.Raw.{raw}
use base.Shift.{Keyless}
use denote.Memory.{lone}
use denote.RawPtr.{Ptr}
use denote.Struct.Struct.{exits_of}
use denote.Struct.Owning.{fields, shape, to}
use denote.Param.Send.{AllSend, IsSend, owning_send, sendable, struct_send}
use Rattle.std.specs.Prelude.{None, Option, Some}
use Rattle.std.specs.Global.{Global}
use Rattle.std.proofs.Crossing as crossing
use Rattle.std_alloc.proofs.SendSync.{lies, quiet}
use Rattle.std_heap.proofs.Global.TheSendSync as heap
use Rattle.ep_kernel.specs.contracts.ready.ReadyKernel as Kernel
use Rattle.ep_kernel.proofs.ready.ReadyKernel.TheSendSync.{the_send as kernel_send}
use Rattle.ep_handle.specs.Slots.{slot_owns}
use Rattle.ep_handle.specs.contracts.slot.Slot.{the_row, the_type}

-- what a slot owns names no thread
of_any : (alloc : Global) (at : Ptr) (kernel : Option Kernel.the_row.Denot) → Keyless (slot_owns alloc at kernel)
of_any alloc at None = tt
of_any alloc at (Some x) = (lies Kernel.the_row kernel_send at x, crossing.frees.frees alloc (raw (lone Kernel.the_row.mir)) at)

pub send : IsSend the_row
send =
    let each : AllSend (fields the_type) = (search sendable, (heap.the_field_send, tt)) in
    owning_send the_type each (λ s. of_any s.alloc s.at s.kernel) (λ k. quiet (to the_type) (exits_of k (fields the_type)) ((struct_send (shape the_type) each).leaving k))
