-- Keys and their numbers, and members that are put into an object one after another.
use Rattle.std.proofs.Common.{List, [], None, Option, Some, Bool, ap, arith, bytes_eq, false, get_or, if◌then◌else◌, length, refl, suc, sym, take, true, zero, ℕ, ◌||◌, ◌+◌, ◌++◌, ◌-◌, ◌<◌, ◌∙◌, ◌∷◌, ◌≡◌}
use Rattle.std.specs.Cmp.Lexicographic.{slice_cmp}
use Rattle.std.specs.Ordering.{match_ordering, nat_cmp}
use Rattle.std.specs.declared.cmp.Ordering.{Ordering}
use Rattle.std.specs.declared.cmp.Ordering.TheVariants.{Equal, Greater, Less}
use Rattle.std.proofs.lemmas.List.{take_more}
use Rattle.std.proofs.lemmas.Slice.Eq.{bytes_eq-Decides}
use Rattle.json.specs.Json.{Json, Parse, after_end_array, items, members, parse_map, value}
use Rattle.json.specs.Token.{Token}
use Rattle.json.proofs.Grammar.{value-begin_array, value-begin_object}
use Rattle.serde_json.specs.Data.{Data, Items, Members, Num, array, float, item, member, negative, no_items, no_members, object, put, unsigned}
use Rattle.serde_json.specs.Find.{as_u64, get_member}
use Rattle.serde_json.specs.Read.{converted, of_items, of_json, of_members}
use Rattle.serde_json.proofs.Views.{get_member-put, get_member-put_other}
use Rattle.ep_json.specs.Text.{whole}
use Rattle.ep_json.proofs.TreeLemmas.{converted_array, converted_object, item_read, items_over, whole_read}
use Rattle.ep_text.specs.declared.key.Key.{Key}
use Rattle.ep_text.specs.declared.key.Key.TheVariants as key
use Rattle.ep_text.specs.declared.source.Member.{Member}
use Rattle.ep_text.specs.Flat.{flat_depth}
use Rattle.ep_text.specs.Key.{key_name, key_number}
use Rattle.ep_text.specs.Keys.{first_other, is_among}
use Rattle.ep_text.specs.Source.{found_data, put_all}

-- ---- keys

abbrev keys : List Key
keys =
    key.Op ∷ key.By ∷ key.Pid ∷ key.Cloexec ∷ key.Init ∷ key.Sem ∷ key.Clock ∷ key.Ep ∷ key.Fd ∷ key.Act ∷ key.Mask ∷
    key.Data ∷ key.Max ∷ key.Timeout ∷ key.N ∷ key.Hex ∷ key.Fill ∷ key.Value ∷ key.Interval ∷ key.Abs ∷ key.To ∷
    key.How ∷ key.Family ∷ key.Space ∷ key.Name ∷ key.Backlog ∷ []

abbrev number_named : List Key → List ℕ → ℕ
number_named [] name = 0
number_named (k ∷ ks) name = if bytes_eq (key_name k) name then key_number k else number_named ks name

key_at : (k : Key) → get_or keys (key_number k) key.Op ≡ k
key_at key.Op = refl
key_at key.By = refl
key_at key.Pid = refl
key_at key.Cloexec = refl
key_at key.Init = refl
key_at key.Sem = refl
key_at key.Clock = refl
key_at key.Ep = refl
key_at key.Fd = refl
key_at key.Act = refl
key_at key.Mask = refl
key_at key.Data = refl
key_at key.Max = refl
key_at key.Timeout = refl
key_at key.N = refl
key_at key.Hex = refl
key_at key.Fill = refl
key_at key.Value = refl
key_at key.Interval = refl
key_at key.Abs = refl
key_at key.To = refl
key_at key.How = refl
key_at key.Family = refl
key_at key.Space = refl
key_at key.Name = refl
key_at key.Backlog = refl

named_number : (k : Key) → number_named keys (key_name k) ≡ key_number k
named_number key.Op = refl
named_number key.By = refl
named_number key.Pid = refl
named_number key.Cloexec = refl
named_number key.Init = refl
named_number key.Sem = refl
named_number key.Clock = refl
named_number key.Ep = refl
named_number key.Fd = refl
named_number key.Act = refl
named_number key.Mask = refl
named_number key.Data = refl
named_number key.Max = refl
named_number key.Timeout = refl
named_number key.N = refl
named_number key.Hex = refl
named_number key.Fill = refl
named_number key.Value = refl
named_number key.Interval = refl
named_number key.Abs = refl
named_number key.To = refl
named_number key.How = refl
named_number key.Family = refl
named_number key.Space = refl
named_number key.Name = refl
named_number key.Backlog = refl

or_true : (b : Bool) → (b || true) ≡ true
or_true true = refl
or_true false = refl

pub same_key : (k l : Key) → key_number k ≡ key_number l → k ≡ l
same_key k l e = sym (key_at k) ∙ ap (λ n. get_or keys n key.Op) e ∙ key_at l

same_number : (k l : Key) → key_name k ≡ key_name l → key_number k ≡ key_number l
same_number k l e = sym (named_number k) ∙ ap (number_named keys) e ∙ named_number l

-- a name is among keys of which one has its number
pub among_numbered : (ks : List Key) (i : ℕ) (k d : Key) → i < length ks → key_number (get_or ks i d) ≡ key_number k → is_among ks (key_name k) ≡ true
among_numbered [] i k d lt e = absurd (omega (arith, lt))
among_numbered (l ∷ ks) zero k d lt e =
    ap (λ b. b || is_among ks (key_name k)) ((bytes_eq-Decides (key_name l) (key_name k)).1 (ap key_name (same_key l k e)))
among_numbered (l ∷ ks) (suc i) k d lt e =
    ap (λ b. bytes_eq (key_name l) (key_name k) || b) (among_numbered ks i k d (omega (arith, lt)) e) ∙ or_true (bytes_eq (key_name l) (key_name k))

-- ---- members

pub put_all_more : (into : Members) (ms : List Member) (m : Member) → put_all into (ms ++ m ∷ []) ≡ put (key_name m.key) (found_data m.value) (put_all into ms)
put_all_more into [] m = refl
put_all_more into (l ∷ ms) m = put_all_more (put (key_name l.key) (found_data l.value) into) ms m

pub put_last : (ms : List Member) (n : ℕ) (m : Member) → n < length ms → get_or ms n m ≡ m
    → put_all no_members (take (n + 1) ms) ≡ put (key_name m.key) (found_data m.value) (put_all no_members (take n ms))
put_last ms n m h e = ap (put_all no_members) (take_more ms n m h ∙ ap (λ x. take n ms ++ x ∷ []) e) ∙ put_all_more no_members (take n ms) m

pub found_here : (ms : List Member) (n : ℕ) (m : Member) (k : Key) → n < length ms → get_or ms n m ≡ m → key_number m.key ≡ key_number k
    → get_member (key_name k) (put_all no_members (take (n + 1) ms)) ≡ Some (found_data m.value)
found_here ms n m k h e same =
    ap (get_member (key_name k)) (put_last ms n m h e ∙ ap (λ l. put (key_name l) (found_data m.value) (put_all no_members (take n ms))) (same_key m.key k same))
    ∙ get_member-put (key_name k) (found_data m.value) (put_all no_members (take n ms))

pub found_before : (ms : List Member) (n : ℕ) (m : Member) (k : Key) → n < length ms → get_or ms n m ≡ m → (key_number m.key ≡ key_number k → ⊥)
    → get_member (key_name k) (put_all no_members (take n ms)) ≡ get_member (key_name k) (put_all no_members (take (n + 1) ms))
found_before ms n m k h e other =
    sym (ap (get_member (key_name k)) (put_last ms n m h e)
    ∙ get_member-put_other (key_name k) (key_name m.key) (found_data m.value) (put_all no_members (take n ms)) (λ same. other (same_number m.key k (sym same))))

-- ---- no other key

split : (b : Bool) (o : Option (List ℕ)) (name : List ℕ) → (if b then o else Some name) ≡ None → (b ≡ true) × (o ≡ None)
split true o name e = (refl, e)
split false o name e = absurd (cc)

other_put_at : (o : Ordering) (ks : List Key) (name l : List ℕ) (d x : Data) (ms : Members) → is_among ks name ≡ true → first_other ks (member l x ms) ≡ None → first_other ks (put name d ms) ≡ None
    → first_other ks (match_ordering o (member name d (member l x ms)) (member l d ms) (member l x (put name d ms))) ≡ None
other_put_at Less ks name l d x ms among none later = rw among none
other_put_at Equal ks name l d x ms among none later = none
other_put_at Greater ks name l d x ms among none later = rw (split (is_among ks l) (first_other ks ms) l none).0 later

pub other_put : (ks : List Key) (name : List ℕ) (d : Data) (ms : Members) → is_among ks name ≡ true → first_other ks ms ≡ None → first_other ks (put name d ms) ≡ None
other_put ks name d no_members among none = rw among refl
other_put ks name d (member l x ms) among none =
    other_put_at (slice_cmp nat_cmp name l) ks name l d x ms among none (other_put ks name d ms among (split (is_among ks l) (first_other ks ms) l none).1)

-- ---- a list of two whole numbers

pub unsigned_of : (a : Num) (n : ℕ) → as_u64 a ≡ Some n → a ≡ unsigned n
unsigned_of (unsigned m) n e = cc
unsigned_of (negative z) n e = absurd (cc)
unsigned_of (float x) n e = absurd (cc)

-- each item is shorter than what it is read from, so the count of the tokens is enough for both and the bracket
pub two_read : (p : Parse Json) (ts r s rest : List Token) (a b : Data) → (after_end_array ts ≡ None) × (converted of_json (p ts) ≡ Some (a, r)) × (length r < length ts)
    → (after_end_array r ≡ None) × (converted of_json (p r) ≡ Some (b, s)) × (length s < length r) → after_end_array s ≡ Some rest
    → converted of_items (items p (length ts) ts) ≡ Some (item a (item b no_items), rest)
two_read p ts r s rest a b first second closed =
    let n = length ts in
    item_read p n ts r a (omega (arith, first.2)) first.0 first.1
    ∙ ap (parse_map (item a)) (item_read p (n - 1) r s b (omega (arith, first.2, second.2)) second.0 second.1
    ∙ ap (parse_map (item b)) (items_over p (n - 1 - 1) s rest (omega (arith, first.2, second.2)) closed))

pub list_read : (ts rest : List Token) (ds : Items) → converted of_items (items (value 125) (length ts) ts) ≡ Some (ds, rest)
    → converted of_json (value flat_depth (Token.begin_array ∷ ts)) ≡ Some (array ds, rest)
list_read ts rest ds e = ap (converted of_json) (value-begin_array flat_depth ts (omega arith)) ∙ converted_array (items (value 125) (length ts) ts) ∙ ap (parse_map array) e

-- ---- an object that is all of a text

pub object_read : (ts : List Token) (found : Members) → converted (λ ms. of_members ms no_members) (members (value flat_depth) (length ts) ts) ≡ Some (found, []) → whole (value 127 (Token.begin_object ∷ ts)) ≡ Some (object found)
object_read ts found e =
    whole_read (value 127 (Token.begin_object ∷ ts)) (object found)
    (ap (converted of_json) (value-begin_object 127 ts (omega arith)) ∙ converted_object (members (value flat_depth) (length ts) ts) ∙ ap (parse_map object) e)
