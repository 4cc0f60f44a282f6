-- The grammar's loops, a turn at a time, over what the numbers and keys of a text stand for.
use Rattle.std.proofs.Common.{List, None, Option, Some, [], ap, length, option_and_then, option_map, refl, suc, zero, ℕ, ◌++◌, ◌-◌, ◌<◌, ◌∙◌, ◌∷◌, ◌≡◌, ◌≤◌}
use Rattle.json.specs.Json as json
use Rattle.json.specs.Json.{Parse, after_end_array, items, items_step, members, parse_map, read_key}
use Rattle.json.specs.Token.{Token}
use Rattle.json.proofs.Grammar.{items_end, items_more, members_end, members_more, members_no_key}
use Rattle.serde_json.specs.Data.{Data, Items, Members, array, item, no_items, no_members, object, put}
use Rattle.serde_json.specs.Read.{converted, of_items, of_json, of_members}
use Rattle.serde_json.specs.View.{items_view, view}
use Rattle.serde_json.specs.declared.value.Value.{Value}
use Rattle.ep_json.specs.Text.{whole}

-- ---- what a conversion of what was read tells of it

abbrev value_or : {A : Type 0} → A → Option A → A
value_or d None = d
value_or d (Some a) = a

same_pair : {B : Type 0} (r s : List Token) (x : Option B) (b : B) → option_map {U = B × List Token} (λ y. (y, r)) x ≡ Some (b, s) → (r ≡ s) × (x ≡ Some b)
same_pair r s None b e = absurd (cc)
same_pair r s (Some y) b e = let same = ap (value_or (y, r)) e in (ap (λ p. p.1) same, ap (λ p. Some p.0) same)

no_pair : {B : Type 0} (r : List Token) (x : Option B) → option_map {U = B × List Token} (λ y. (y, r)) x ≡ None → x ≡ None
no_pair r None e = refl
no_pair r (Some y) e = absurd (cc)

converted_some : {A B : Type 0} (f : A → Option B) (o : Option (A × List Token)) (b : B) (r : List Token) → converted f o ≡ Some (b, r) → (a : A) × (o ≡ Some (a, r)) × (f a ≡ Some b)
converted_some f None b r e = absurd (cc)
converted_some f (Some p) b r e = let both = same_pair p.1 r (f p.0) b e in (p.0, ap (λ s. Some (p.0, s)) both.0, both.1)

map_of_map : {A B : Type 0} (g : A → B) (r : List Token) (x : Option A) → option_map (λ b. (b, r)) (option_map g x) ≡ parse_map g (option_map (λ a. (a, r)) x)
map_of_map g r None = refl
map_of_map g r (Some a) = refl

pub converted_array : (o : Option (json.Items × List Token)) → converted of_json (parse_map json.array o) ≡ parse_map array (converted of_items o)
converted_array None = refl
converted_array (Some p) = map_of_map array p.1 (of_items p.0)

pub converted_object : (o : Option (json.Members × List Token)) → converted of_json (parse_map json.object o) ≡ parse_map object (converted (λ ms. of_members ms no_members) o)
converted_object None = refl
converted_object (Some p) = map_of_map object p.1 (of_members p.0 no_members)

-- ---- items

item_in : (j : json.Json) (d : Data) → of_json j ≡ Some d → (o : Option (json.Items × List Token)) → converted of_items (parse_map (json.item j) o) ≡ parse_map (item d) (converted of_items o)
item_in j d e None = refl
item_in j d e (Some p) = rw e (map_of_map (item d) p.1 (of_items p.0))

item_out : (j : json.Json) → of_json j ≡ None → (o : Option (json.Items × List Token)) → converted of_items (parse_map (json.item j) o) ≡ None
item_out j e None = refl
item_out j e (Some p) = rw e

no_item : (more : Parse json.Items) (o : Option (json.Json × List Token)) → converted of_json o ≡ None → converted of_items (option_and_then (λ q. parse_map (json.item q.0) (more q.1)) o) ≡ None
no_item more None e = refl
no_item more (Some q) e = item_out q.0 (no_pair q.1 (of_json q.0) e) (more q.1)

module _ (p : Parse json.Json) where
  pub item_read : (n : ℕ) (ts r : List Token) (d : Data) → 0 < n → after_end_array ts ≡ None → converted of_json (p ts) ≡ Some (d, r)
      → converted of_items (items p n ts) ≡ parse_map (item d) (converted of_items (items p (n - 1) r))
  item_read n ts r d some going e = let j = converted_some of_json (p ts) d r e in ap (converted of_items) (items_more p n ts r j.0 some going j.1) ∙ item_in j.0 d j.2 _

  pub item_refused : (n : ℕ) (ts : List Token) → after_end_array ts ≡ None → converted of_json (p ts) ≡ None → converted of_items (items p n ts) ≡ None
  unfolding items
  item_refused zero ts going e = refl
  item_refused (suc n) ts going e = ap (λ o. converted of_items (items_step p (items p n) ts o)) going ∙ no_item (items p n) (p ts) e

  pub items_over : (n : ℕ) (ts r : List Token) → length ts ≤ n → after_end_array ts ≡ Some r → converted of_items (items p n ts) ≡ Some (no_items, r)
  items_over n ts r enough e = ap (converted of_items) (items_end p n ts r enough e)

-- items that were found, before those that come
abbrev pub items_before : List Value → Items → Items
items_before [] rest = rest
items_before (v ∷ vs) rest = item (view v) (items_before vs rest)

pub before_none : (vs : List Value) → items_before vs no_items ≡ items_view vs
before_none [] = refl
before_none (v ∷ vs) = ap (item (view v)) (before_none vs)

before_more : (vs : List Value) (v : Value) (rest : Items) → items_before vs (item (view v) rest) ≡ items_before (vs ++ v ∷ []) rest
before_more [] v rest = refl
before_more (w ∷ vs) v rest = ap (item (view w)) (before_more vs v rest)

pub item_before : (vs : List Value) (v : Value) (r : Option (Items × List Token)) → parse_map (items_before vs) (parse_map (item (view v)) r) ≡ parse_map (items_before (vs ++ v ∷ [])) r
item_before vs v None = refl
item_before vs v (Some p) = ap (λ ds. Some (ds, p.1)) (before_more vs v p.0)

pub nothing_before : (r : Option (Items × List Token)) → r ≡ parse_map (λ a. a) r
nothing_before None = refl
nothing_before (Some p) = refl

-- ---- members, behind those that were found

member_in : (k : List ℕ) (j : json.Json) (d : Data) (found : Members) → of_json j ≡ Some d → (o : Option (json.Members × List Token))
    → converted (λ ms. of_members ms found) (parse_map (json.member k j) o) ≡ converted (λ ms. of_members ms (put k d found)) o
member_in k j d found e None = refl
member_in k j d found e (Some p) = rw e

member_out : (k : List ℕ) (j : json.Json) (found : Members) → of_json j ≡ None → (o : Option (json.Members × List Token)) → converted (λ ms. of_members ms found) (parse_map (json.member k j) o) ≡ None
member_out k j found e None = refl
member_out k j found e (Some p) = rw e

no_member : (k : List ℕ) (found : Members) (more : Parse json.Members) (o : Option (json.Json × List Token)) → converted of_json o ≡ None
    → converted (λ ms. of_members ms found) (option_and_then (λ q. parse_map (json.member k q.0) (more q.1)) o) ≡ None
no_member k found more None e = refl
no_member k found more (Some q) e = member_out k q.0 found (no_pair q.1 (of_json q.0) e) (more q.1)

module _ (p : Parse json.Json) (found : Members) where
  pub member_read : (n : ℕ) (k : List ℕ) (ts s r : List Token) (d : Data) → 0 < n → read_key ts ≡ Some (Some k, s) → converted of_json (p s) ≡ Some (d, r)
      → converted (λ ms. of_members ms found) (members p n ts) ≡ converted (λ ms. of_members ms (put k d found)) (members p (n - 1) r)
  member_read n k ts s r d some key e =
      let j = converted_some of_json (p s) d r e in
      ap (converted (λ ms. of_members ms found)) (members_more p n k ts s r j.0 some key j.1) ∙ member_in k j.0 d found j.2 _

  pub member_refused : (n : ℕ) (k : List ℕ) (ts s : List Token) → read_key ts ≡ Some (Some k, s) → converted of_json (p s) ≡ None → converted (λ ms. of_members ms found) (members p n ts) ≡ None
  unfolding members
  member_refused zero k ts s key e = refl
  member_refused (suc n) k ts s key e = rw key (no_member k found (members p n) (p s) e)

  pub key_refused : (n : ℕ) (ts : List Token) → read_key ts ≡ None → converted (λ ms. of_members ms found) (members p n ts) ≡ None
  key_refused n ts e = ap (converted (λ ms. of_members ms found)) (members_no_key p n ts e)

  pub members_over : (n : ℕ) (ts r : List Token) → length ts ≤ n → read_key ts ≡ Some (None, r) → converted (λ ms. of_members ms found) (members p n ts) ≡ Some (found, r)
  members_over n ts r enough e = ap (converted (λ ms. of_members ms found)) (members_end p n ts r enough e)

-- ---- all of a text

pub whole_read : (o : Option (json.Json × List Token)) (d : Data) → converted of_json o ≡ Some (d, []) → whole o ≡ Some d
whole_read o d e = let j = converted_some of_json o d [] e in ap whole j.1 ∙ j.2
