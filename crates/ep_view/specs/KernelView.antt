-- Registrations and waiters as a kernel keeps them: of the counts only whether something arrived since the last report,
-- and of the event since which one is reportable nothing.
use Rattle.std.specs.List.{find, list_any}
use Rattle.std.specs.Prelude.{Bool, List, Option, false, if◌then◌else◌, map, nat_lt, not, suc, true, unwrap_or, zero, ℕ, ◌&&◌, ◌||◌, ◌==◌}
use Rattle.ep_base.specs.declared.answer.Report.{Report}
use Rattle.ep_machine.specs.Bits.{ET, IN, ONESHOT, asked, has_bit, when}
use Rattle.ep_machine.specs.Counts.{brings}
use Rattle.ep_machine.specs.Files.{Files, is_live, object_of, side_of}
use Rattle.ep_machine.specs.Lists.{is_among}
use Rattle.ep_machine.specs.Objects.{is_instance, plain}
use Rattle.ep_machine.specs.Readiness.{is_fresh, present_of}
use Rattle.ep_machine.specs.Spread.{raised_of}
use Rattle.ep_machine.specs.State.{State, Waiter, Watch}

-- a registration: instance and target are numbers of descriptions
pub record KernelWatch : Type 0 where
  pub number : ℕ
  pub instance : ℕ
  pub fd : ℕ
  pub target : ℕ
  pub mask : ℕ
  pub tag : ℕ
  pub armed : Bool
  pub fresh : Bool  -- a bit that it asks for arrived since its last report
  pub reported_in : ℕ  -- the event of its last report, 0 before the first
  pub passes_in : ℕ  -- the event in which it passes something on, 0 outside of an event

-- the machine's, between two events
abbrev pub kernel_watch : State → Watch → KernelWatch
kernel_watch s x = record {
  number = x.number;
  instance = x.instance;
  fd = x.fd;
  target = x.target;
  mask = x.mask;
  tag = x.tag;
  armed = x.armed;
  fresh = is_fresh s x;
  reported_in = x.rep;
  passes_in = 0;
}

abbrev pub kernel_watches : State → List Watch → List KernelWatch
kernel_watches s xs = map (kernel_watch s) xs

-- the one with this number
abbrev pub view_of : List KernelWatch → ℕ → Option KernelWatch
view_of xs k = find (λ x. x.number == k) xs

-- What epoll_ctl asks and does.
abbrev pub is_at : ℕ → ℕ → ℕ → KernelWatch → Bool
is_at e fd d x = x.instance == e && x.fd == fd && x.target == d

abbrev pub kernel_modified : ℕ → ℕ → ℕ → ℕ → ℕ → KernelWatch → KernelWatch
kernel_modified e fd d mask tag x = if is_at e fd d x then record x { mask = mask; tag = tag; armed = true; fresh = true } else x

-- Looking down: a registration of an instance passes a test, which asks of the instances below whether they have one
-- that passes. The longest chain of instances has five.
abbrev pub any_within : ((ℕ → Bool) → KernelWatch → Bool) → ℕ → List KernelWatch → ℕ → Bool
any_within test zero xs e = false
any_within test (suc levels) xs e = list_any (λ x. x.instance == e && test (any_within test levels xs) x) xs

abbrev pub watches_instance : Files → KernelWatch → Bool
watches_instance files x = is_instance (unwrap_or (object_of files x.target) plain)

-- Readiness, where `ready` says which instances are ready.
abbrev pub shown_at : (ℕ → Bool) → Files → ℕ → KernelWatch → ℕ
shown_at ready files now x = when x.armed (asked x.mask (present_of ready x.target (object_of files x.target) (side_of files x.target) now))

-- an edge-triggered one shows nothing twice
abbrev pub shows : (ℕ → Bool) → Files → ℕ → KernelWatch → Bool
shows ready files now x = nat_lt 0 (shown_at ready files now x) && (not (has_bit x.mask ET) || x.fresh)

-- it belongs to this instance and shows something
abbrev pub shows_in : (ℕ → Bool) → Files → ℕ → ℕ → KernelWatch → Bool
shows_in ready files now e x = x.instance == e && shows ready files now x

abbrev pub ready_within : ℕ → Files → ℕ → List KernelWatch → ℕ → Bool
ready_within levels files now xs e = any_within (λ ready x. shows ready files now x) levels xs e

unfoldable pub ready_now : Files → ℕ → List KernelWatch → ℕ → Bool
ready_now files now xs e = ready_within 5 files now xs e

abbrev pub report_at : (ℕ → Bool) → Files → ℕ → KernelWatch → Report
report_at ready files now x = record { bits = record { 0 = shown_at ready files now x }; tag = x.tag }

-- reported in event n, where its number is among these: a one-shot is disarmed
abbrev pub kernel_reported : ℕ → List ℕ → KernelWatch → KernelWatch
kernel_reported n ks x = if is_among ks x.number then record x { armed = x.armed && not (has_bit x.mask ONESHOT); fresh = false; reported_in = n } else x

-- What is raised.
abbrev pub stirred : ℕ → Bool → Bool → KernelWatch → KernelWatch
stirred n arrives passes x = record x { fresh = arrives || x.fresh; passes_in = if passes then n else x.passes_in }

-- where these bits are raised at its target in event n: something that it asks for arrives, and an armed one passes
-- it on
abbrev pub freshened_by : ℕ → (ℕ → ℕ) → KernelWatch → KernelWatch
freshened_by n bits x = stirred n (brings x.mask (bits x.target)) (x.armed && nat_lt 0 (asked x.mask (bits x.target))) x

abbrev pub freshened : ℕ → List (ℕ × ℕ) → KernelWatch → KernelWatch
freshened n raised x = freshened_by n (raised_of raised) x

-- where `reached` says which instances IN reaches from below
abbrev pub carries : (ℕ → Bool) → Files → ℕ → KernelWatch → Bool
carries reached files n x = x.passes_in == n || x.armed && watches_instance files x && reached x.target && nat_lt 0 (asked x.mask IN)

abbrev pub reached_within : ℕ → Files → ℕ → List KernelWatch → ℕ → Bool
reached_within levels files n xs e = any_within (λ reached x. carries reached files n x) levels xs e

unfoldable pub reached_now : Files → ℕ → List KernelWatch → ℕ → Bool
reached_now files n xs e = reached_within 5 files n xs e

-- and what watches such an instance is fresh
abbrev pub climbing : (ℕ → Bool) → Files → KernelWatch → KernelWatch
climbing reached files x = record x { fresh = watches_instance files x && reached x.target && brings x.mask IN || x.fresh }

abbrev pub climbing_all : ℕ → Files → List KernelWatch → List KernelWatch
climbing_all n files xs = map (climbing (reached_now files n xs) files) xs

-- at the end of the event nothing is passed on any more
abbrev pub resting : KernelWatch → KernelWatch
resting x = record x { passes_in = 0 }

abbrev pub climbed : (ℕ → Bool) → Files → KernelWatch → KernelWatch
climbed reached files x = resting (climbing reached files x)

abbrev pub climbed_all : ℕ → Files → List KernelWatch → List KernelWatch
climbed_all n files xs = map (climbed (reached_now files n xs) files) xs

abbrev pub settled_watches : ℕ → Files → (KernelWatch → KernelWatch) → List KernelWatch → List KernelWatch
settled_watches n files raise xs = climbed_all n files (map raise xs)

-- its instance and its target live
abbrev pub stays_in : Files → KernelWatch → Bool
stays_in files x = is_live files x.instance && is_live files x.target

-- a waiter whose instance stands under another number
abbrev pub at_number : (ℕ → ℕ) → Waiter → Waiter
at_number number w = record w { instance = number w.instance }
