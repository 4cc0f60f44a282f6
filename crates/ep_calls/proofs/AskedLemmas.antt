-- What a call asks of an object, and the name that was found free for it.
use Rattle.std.proofs.Common.{Bool, List, None, Option, Some, ap, false, if◌then◌else◌, is_none, refl, subst, suc, sym, true, zero, ℕ, ◌+◌, ◌==◌, ◌≡◌, ◌∙◌}
use Rattle.std.proofs.lemmas.Bool.{false≢true}
use Rattle.ep_base.specs.declared.socket.Hearing.{Hearing}
use Rattle.ep_base.specs.declared.socket.Hearing.TheVariants.{Nobody}
use Rattle.ep_base.specs.declared.call.Call.{Call}
use Rattle.ep_base.specs.declared.call.Call.TheVariants.{Bind, Connect, Listen}
use Rattle.ep_base.specs.declared.ids.Fd.{Fd}
use Rattle.ep_base.specs.declared.socket.Name.{Name}
use Rattle.ep_base.specs.declared.socket.Space.{Space}
use Rattle.ep_machine.specs.Names.{free_from, free_name, given}
use Rattle.ep_base.specs.declared.socket.Space.TheVariants.{V4}
use Rattle.ep_machine.specs.Objects.{Object, ObjectCall, asks, found_for, hearing, is_taken, object_call}
use Rattle.ep_object.specs.Asked.{is_naming, naming_call, plain_call}
use Rattle.ep_table.specs.Taking.{FindsFree, IsFree}

-- whether a call is on an object doesn't go by the name
both_none : (a b : Option Name) (h g : Hearing) (call : Call) → is_none (object_call a h call) ≡ is_none (object_call b g call)
both_none a b h g (Bind fd name) = refl
both_none a b h g call = refl

is_nothing : {A : Type 0} (o : Option A) → is_none o ≡ true → o ≡ None
is_nothing None h = refl
is_nothing (Some x) h = absurd (false≢true h)

pub none_anyway : (a b : Option Name) (h g : Hearing) (call : Call) → object_call a h call ≡ None → object_call b g call ≡ None
none_anyway a b h g call is = is_nothing (object_call b g call) (sym (both_none a b h g call) ∙ ap (λ (o : Option (Fd × ObjectCall)). is_none o) is)

-- one that is on none is on none whatever the files have
pub asks_none : (objects : List (Option Object)) (call : Call) → object_call None Nobody call ≡ None → asks objects call ≡ None
asks_none objects call h = none_anyway None (found_for (is_taken objects) call) Nobody (hearing objects call) call h

-- What is asked by a bind, a listen or a connect, and by any other call.
pub naming_is_asked : (objects : List (Option Object)) (call : Call) (on : Fd × ObjectCall) → naming_call (found_for (is_taken objects) call) (hearing objects call) call ≡ Some on → asks objects call ≡ Some on
naming_is_asked objects (Bind fd name) on h = h
naming_is_asked objects (Listen fd backlog) on h = h
naming_is_asked objects (Connect fd name) on h = h
naming_is_asked objects call on h = cc

pub plain_is_asked : (objects : List (Option Object)) (call : Call) (on : Fd × ObjectCall) → plain_call call ≡ Some on → asks objects call ≡ Some on
plain_is_asked objects (Bind fd name) on h = cc
plain_is_asked objects (Listen fd backlog) on h = cc
plain_is_asked objects (Connect fd name) on h = cc
plain_is_asked objects call on h = h

-- one that is neither is on no object
pub neither_asks : (objects : List (Option Object)) (call : Call) → plain_call call ≡ None → is_naming call ≡ false → asks objects call ≡ None
neither_asks objects (Bind fd name) h n = cc
neither_asks objects (Listen fd backlog) h n = cc
neither_asks objects (Connect fd name) h n = cc
neither_asks objects call h n = h

-- What was found for a call is free.
module _ (objects : List (Option Object)) where
  tested : (name : Name) (rest : Option Name) (b : Bool) → is_taken objects name ≡ b → IsFree objects rest → IsFree objects (if b then rest else Some name)
  tested name rest true is h = h
  tested name rest false is h = is

  from_is_free : (left k : ℕ) (space : Space) → IsFree objects (free_from (is_taken objects) left k space)
  from_is_free zero k space = tt
  from_is_free (suc left) k space =
      let name : Name = record { space = space; number = k } in
      tested name (free_from (is_taken objects) left (k + 1) space) (is_taken objects name) refl (from_is_free left (k + 1) space)

  given_is_free : (space : Space) → IsFree objects (given (is_taken objects) space)
  given_is_free space = from_is_free 28232 32768 space

  name_is_free : (name : Name) → IsFree objects (free_name (is_taken objects) name)
  name_is_free name = any_or (name.number == 0) where
    any_or : (b : Bool) → IsFree objects (if b then given (is_taken objects) name.space else if is_taken objects name then None else Some name)
    any_or true = given_is_free name.space
    any_or false = tested name None (is_taken objects name) refl tt

  abbrev FindsAny : Option (Fd × ObjectCall) → Type 0
  FindsAny None = Unit {0}
  FindsAny (Some on) = FindsFree objects on.1

  finds_any : (call : Call) → FindsAny (asks objects call)
  finds_any (Bind fd name) = name_is_free name
  finds_any (Listen fd backlog) = given_is_free V4
  finds_any (Connect fd name) = given_is_free name.space
  finds_any call = tt

  pub finds_free : (call : Call) (fd : Fd) (asked : ObjectCall) → asks objects call ≡ Some (fd, asked) → FindsFree objects asked
  finds_free call fd asked h = subst FindsAny h (finds_any call)
