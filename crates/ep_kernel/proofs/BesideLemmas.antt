-- What happens to the lists and to the hopes alike, one thing after another.
use Rattle.std.proofs.Common.{◌∙◌, ap, refl}
use Rattle.ep_kernel.specs.Beside.{Alike, Both, Each, KeepsRest}
use Rattle.ep_kernel.specs.declared.beside.Beside.{Beside}
use Rattle.ep_ready.specs.ReadyLists.{Lists}

pub both_map : {P Q : Lists → Type 0} {b : Beside} → ((l : Lists) → P l → Q l) → Both P b → Both Q b
both_map {b = b} f h = record { lists = f b.lists h.lists; hopes = f b.asked.hopes h.hopes }

pub both_then : {P Q : Lists → Type 0} {R : Lists → Lists → Type 0} {b c : Beside} → ((l m : Lists) → P l → R l m → Q m) → Both P b → Alike R b c → Both Q c
both_then {b = b} {c = c} f h g = record { lists = f b.lists c.lists h.lists g.lists; hopes = f b.asked.hopes c.asked.hopes h.hopes g.hopes }

pub alike_map : {R S : Lists → Lists → Type 0} {b c : Beside} → ((l m : Lists) → R l m → S l m) → Alike R b c → Alike S b c
alike_map {b = b} {c = c} f h = record { lists = f b.lists c.lists h.lists; hopes = f b.asked.hopes c.asked.hopes h.hopes }

pub alike_then : {R S T : Lists → Lists → Type 0} {a b c : Beside} → ((l m n : Lists) → R l m → S m n → T l n) → Alike R a b → Alike S b c → Alike T a c
alike_then {a = a} {b = b} {c = c} f g h = record { lists = f a.lists b.lists c.lists g.lists h.lists; hopes = f a.asked.hopes b.asked.hopes c.asked.hopes g.hopes h.hopes }

-- The same where all else stays.
pub rest_then : (a b c : Beside) → KeepsRest a b → KeepsRest b c → KeepsRest a c
rest_then a b c g h = h ∙ ap (λ (x : Beside). record x { lists = c.lists; asked = record x.asked { hopes = c.asked.hopes } }) g

pub each_start : {R : Lists → Lists → Type 0} {b : Beside} → ((l : Lists) → R l l) → Each R b b
each_start {b = b} f = record { alike = record { lists = f b.lists; hopes = f b.asked.hopes }; rest = refl }

pub each_map : {R S : Lists → Lists → Type 0} {b c : Beside} → ((l m : Lists) → R l m → S l m) → Each R b c → Each S b c
each_map f h = record { alike = alike_map f h.alike; rest = h.rest }

pub each_then : {R S T : Lists → Lists → Type 0} {a b c : Beside} → ((l m n : Lists) → R l m → S m n → T l n) → Each R a b → Each S b c → Each T a c
each_then {a = a} {b = b} {c = c} f g h = record { alike = alike_then f g.alike h.alike; rest = rest_then a b c g.rest h.rest }
