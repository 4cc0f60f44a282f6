-- What the kind of an object tells: 1 is that of an instance, and only what has none can't be watched.
use Rattle.std.proofs.Common.{◌≡◌, ◌==◌, ◌∙◌, ℕ, None, Option, Some, ap, cond, false, refl, sym, true, unwrap_or}
use Rattle.ep_base.specs.declared.object.End.{End}
use Rattle.ep_machine.specs.Objects.{Object, ObjectCall, close_end, instance, is_instance, is_plain, object_effect, plain}
use Rattle.ep_object.proofs.KindLemmas.{call_keeps_kind, close_keeps_kind}
use Rattle.ep_object.specs.Kinds.{kind_number}
use Rattle.ep_view.specs.AtRest.{can_be_watched, kind_of}

pub instance_kind : (o : Option Object) → is_instance (unwrap_or o plain) ≡ (kind_of o == 1)
instance_kind None = refl
instance_kind (Some instance) = refl
instance_kind o = refl

pub kind_of_instance : (o : Option Object) → is_instance (unwrap_or o plain) ≡ true → kind_of o ≡ 1
kind_of_instance None h = cc
kind_of_instance (Some instance) h = refl
kind_of_instance o h = cc

pub instance_of_kind : (o : Option Object) → kind_of o ≡ 1 → o ≡ Some instance
instance_of_kind None h = cc
instance_of_kind (Some instance) h = refl
instance_of_kind o h = cc

pub is_instance_of_kind : (o : Option Object) → kind_of o ≡ 1 → is_instance (unwrap_or o plain) ≡ true
is_instance_of_kind o h = λ i. is_instance (unwrap_or (instance_of_kind o h i) plain)

pub watched_unless_plain : (o : Option Object) → is_plain (unwrap_or o plain) ≡ false → can_be_watched o ≡ true
watched_unless_plain None p = cc
watched_unless_plain (Some plain) p = cc
watched_unless_plain o p = refl

-- calls and closes keep it
kind_by_number : (x : Object) → kind_of (Some x) ≡ cond (kind_number x == 0) 0 (cond (kind_number x == 5) 1 2)
kind_by_number plain = refl
kind_by_number x = refl

pub kind_of_number : (x : Object) (n : ℕ) → kind_number x ≡ n → kind_of (Some x) ≡ cond (n == 0) 0 (cond (n == 5) 1 2)
kind_of_number x n is = kind_by_number x ∙ ap (λ (k : ℕ). cond (k == 0) 0 (cond (k == 5) 1 2)) is

pub same_kind : (x y : Object) → kind_number y ≡ kind_number x → kind_of (Some y) ≡ kind_of (Some x)
same_kind x y same = kind_by_number y ∙ (ap (λ (k : ℕ). cond (k == 0) 0 (cond (k == 5) 1 2)) same ∙ sym (kind_by_number x))

pub effect_kind : (x : Object) (e : End) (now : ℕ) (asked : ObjectCall) → kind_of (Some (object_effect x e now asked).1) ≡ kind_of (Some x)
effect_kind x e now asked = same_kind x (object_effect x e now asked).1 (call_keeps_kind x e now asked)

pub closed_kind : (x : Object) (e : End) → kind_of (Some (close_end x e).0) ≡ kind_of (Some x)
closed_kind x e = same_kind x (close_end x e).0 (close_keeps_kind x e)
