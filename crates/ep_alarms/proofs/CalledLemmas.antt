-- The descriptor of a call on an object, whatever name was found free for it.
use Rattle.std.proofs.Common.{None, Option, Some, ap, refl, sym, ℕ, ◌≡◌, ◌∙◌}
use Rattle.ep_alarms.specs.Called.{IsCalled, called_in, descriptor_in, fd_in, under_in}
use Rattle.ep_base.specs.declared.socket.Hearing.{Hearing}
use Rattle.ep_base.specs.declared.socket.Hearing.TheVariants.{Nobody}
use Rattle.ep_base.specs.declared.call.Call.{Call}
use Rattle.ep_base.specs.declared.call.Call.TheVariants.{Accept, Bind}
use Rattle.ep_base.specs.declared.call.Event.{Event}
use Rattle.ep_base.specs.declared.call.Event.TheVariants.{Call as CallOf}
use Rattle.ep_base.specs.declared.ids.DescId.{DescId}
use Rattle.ep_base.specs.declared.ids.Pid.{Pid}
use Rattle.ep_base.specs.declared.socket.Name.{Name}
use Rattle.ep_machine.specs.Files.{Files}
use Rattle.ep_machine.specs.Objects.{found_for, hearing, is_taken, object_call}
use Rattle.ep_table.specs.Value.{Seen, number_found}

fd_anyway : (a b : Option Name) (x y : Hearing) (call : Call) → fd_in (object_call a x call) ≡ fd_in (object_call b y call)
fd_anyway a b x y (Bind fd name) = refl
fd_anyway a b x y call = refl

-- so it can be told without a name
pub called_nameless : (files : Files) (event : Event) (pid : Pid) (call : Call) → event ≡ CallOf pid call → called_in files event ≡ under_in files pid.0 (descriptor_in call)
called_nameless files event pid call is =
    ap (called_in files) is ∙ by call where
      by : (call : Call) → called_in files (CallOf pid call) ≡ under_in files pid.0 (descriptor_in call)
      by (Accept fd cloexec) = refl
      by call = ap (under_in files pid.0) (fd_anyway (found_for (is_taken files.objects) call) None (hearing files.objects call) Nobody call)

pub called_is : (v : Seen) (event : Event) (found : Option DescId) (d : Option ℕ) → called_in v.files event ≡ d → number_found v found ≡ d → IsCalled v event found
called_is v event None d is here = is ∙ sym here
called_is v event (Some desc) d is here = here ∙ sym is
