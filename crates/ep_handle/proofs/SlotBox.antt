-- A slot that has a kernel, and a box of one taken apart, are a box in memory: a pointer and the allocator, and what it owns.
use mathlib.Core.List.{[]}
use mir.Syntax.{impl, tnil, dnil}
use denote.Signature.{Slot, plain}
use Rattle.std.specs.Prelude.{◌≡◌, IsSome, None, Option, Some}
use Rattle.std.proofs.Common.{refl, sym, true≢false}
use Rattle.std_alloc.proofs.BoxSteps.Form.{Bx}
use Rattle.std_heap.specs.contracts.Global as Heap
use Rattle.std_heap.specs.contracts.GlobalAllocator.TheImpl.{dict, ghosts}
use Rattle.std_heap.proofs.Global.TheLaws as heap
use Rattle.ep_kernel.specs.contracts.ready.ReadyKernel as Kernel
use Rattle.ep_kernel.proofs.ready.ReadyKernel.TheLaws as kernel
use Rattle.ep_handle.specs.contracts.bare.Bare as Bares
use Rattle.ep_handle.specs.contracts.slot.Slot as Slots

-- a box of a kernel on the heap
abbrev pub E : Bx
E = record { row = Kernel.the_row; laws = kernel.the_row_laws; al = record { row = Heap.the_row; laws = heap.the_row_laws; g = ghosts; d = dict; drops = impl [] tnil dnil } }

abbrev pub from_bare : Slot 0
from_bare = plain (λ _. Bares.the_row Kernel.the_row Heap.the_row ghosts)

abbrev pub from_slot : Slot 0
from_slot = plain (λ _. Slots.the_row)

pub value_of : {X : Type 0} (o : Option X) → IsSome o → (x : X) × (o ≡ Some x)
value_of None there = absurd (true≢false (sym there))
value_of (Some x) there = (x, refl)
