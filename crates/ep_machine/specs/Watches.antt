-- Registrations: epoll_ctl.
use Rattle.std.specs.List.{list_any}
use Rattle.std.specs.Prelude.{Bool, List, None, [], false, filter, if◌then◌else◌, map, negsuc, not, pos, suc}
use Rattle.std.specs.Prelude.{true, unwrap_or, zero, ℕ, ℤ, ◌&&◌, ◌++◌, ◌+◌, ◌==◌, ◌∷◌}
use Rattle.ep_base.specs.declared.answer.Answer.TheVariants.{Done}
use Rattle.ep_machine.specs.Bits.{EXCLUSIVE, IN, has_bit, when}
use Rattle.ep_machine.specs.Objects.{is_instance, plain}
use Rattle.ep_machine.specs.Readiness.{is_reportable}
use Rattle.ep_machine.specs.Files.{named_by, object_of}
use Rattle.ep_machine.specs.State.{Change, State, Watch}
use Rattle.ep_machine.specs.Lists.{is_among, is_empty}

abbrev pub is_op : ℕ → ℤ → Bool
is_op k (pos op) = op == k
is_op k (negsuc op) = false

abbrev pub is_add : ℤ → Bool
is_add op = is_op 1 op

abbrev pub is_del : ℤ → Bool
is_del op = is_op 2 op

abbrev pub is_mod : ℤ → Bool
is_mod op = is_op 3 op

abbrev pub number_in : ℤ → ℕ
number_in (pos k) = k
number_in (negsuc k) = 0

-- it has this instance, number and description
abbrev pub has_key : ℕ → ℕ → ℕ → Watch → Bool
has_key e fd d x = x.instance == e && x.fd == fd && x.target == d

abbrev pub is_there : State → ℕ → ℕ → ℕ → Bool
is_there s e fd d = list_any (has_key e fd d) s.watches

abbrev pub is_exclusive : Watch → Bool
is_exclusive x = has_bit x.mask EXCLUSIVE

-- it is there, and was added with EXCLUSIVE
abbrev pub is_exclusive_there : State → ℕ → ℕ → ℕ → Bool
is_exclusive_there s e fd d = list_any (λ x. has_key e fd d x && is_exclusive x) s.watches

-- Which instance watches which.
abbrev pub links : State → List (ℕ × ℕ)
links s = map (λ x. (x.instance, x.target)) (filter (λ x. is_instance (unwrap_or (object_of s.files x.target) plain)) s.watches)

-- the last instances of chains of that many links
abbrev pub ends_of_chains : ℕ → List (ℕ × ℕ) → List ℕ
ends_of_chains zero ls = map (λ l. l.0) ls
ends_of_chains (suc k) ls = let ends = ends_of_chains k ls in map (λ l. l.1) (filter (λ l. is_among ends l.0) ls)

-- five links are six instances; a loop has chains of any length
abbrev pub is_legal : List (ℕ × ℕ) → Bool
is_legal ls = is_empty (ends_of_chains 5 ls)

abbrev pub new_watch : State → ℕ → ℕ → ℕ → ℕ → ℕ → Watch
new_watch s e fd d mask tag = record {
  number = s.added + 1;
  instance = e;
  fd = fd;
  target = d;
  mask = mask;
  tag = tag;
  armed = true;
  seen = None;
  rep = 0;
  from = 0;
}

abbrev pub with_watch : State → Watch → State
with_watch s x = record s { watches = s.watches ++ x ∷ []; added = s.added + 1 }

-- it looks at once
abbrev pub looked_at : State → ℕ → List Watch → List (ℕ × ℕ)
looked_at s e xs = (e, when (list_any (is_reportable s) xs) IN) ∷ []

abbrev pub add : State → ℕ → ℕ → ℕ → ℕ → ℕ → Change
add s e fd d mask tag =
    let x = new_watch s e fd d mask tag in
    let after = with_watch s x in (Done, after, looked_at after e (x ∷ []))

abbrev pub modified : ℕ → ℕ → ℕ → ℕ → ℕ → Watch → Watch
modified e fd d mask tag x = if has_key e fd d x then record x { mask = mask; tag = tag; armed = true; seen = None } else x

abbrev pub modify : State → ℕ → ℕ → ℕ → ℕ → ℕ → Change
modify s e fd d mask tag =
    let after = record s { watches = map (modified e fd d mask tag) s.watches } in
    (Done, after, looked_at after e (filter (has_key e fd d) after.watches))

abbrev pub delete : State → ℕ → ℕ → ℕ → Change
delete s e fd d = (Done, record s { watches = filter (λ x. not (has_key e fd d x)) s.watches }, [])

abbrev pub ctl : State → ℕ → ℤ → ℤ → ℤ → ℕ → ℕ → Change
ctl s p epfd op fd mask tag =
    let e = named_by s.files p epfd in
    let d = named_by s.files p fd in
    let k = number_in fd in
    if is_add op then add s e k d mask tag else if is_del op then delete s e k d else modify s e k d mask tag
