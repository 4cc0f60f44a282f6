-- Objects of one member, lines that are no JSON, and headers, which are no commands.
use Rattle.std.proofs.Common.{Bool, Err, IsNone, IsSome, IsUtf8, List, None, Option, Some, ap, arith, bytes_eq, codes, false, if◌then◌else◌, ok_or, option_and_then, option_map, refl, subst, sym, true, unwrap_or, ℕ, ◌==◌, ◌∙◌, ◌≡◌, ◌≢◌}
use Rattle.std.specs.Result.{result_ok}
use Rattle.std.proofs.lemmas.Bool.{eqb-true, true≢false}
use Rattle.std.proofs.lemmas.Slice.Eq.{bytes_eq-Decides}
use Rattle.std.specs.Str.{is_utf8}
use Rattle.std.proofs.lemmas.Str.{IsUtf8-from_is_utf8, is_utf8-from_IsUtf8}
use Rattle.std.proofs.lemmas.Option.{none-some}
use Rattle.serde_json.specs.Data.{Data, Members, array, boolean, member, no_members, null, number, object, string}
use Rattle.serde_json.specs.Events.{members_len}
use Rattle.serde_json.specs.Find.{as_object, get, get_member}
use Rattle.serde_json.specs.Read.{read as json}
use Rattle.serde_json.proofs.Views.{get_member-put_other}
use Rattle.ep_text.specs.declared.reason.Reason.{Reason}
use Rattle.ep_version.specs.declared.version.Version.{Version}
use Rattle.ep_text.specs.Event.{Command, as_written, command, command_in, event}
use Rattle.ep_text.specs.Keys.{◌>>=◌}
use Rattle.ep_text.specs.Reason.{unread}
use Rattle.ep_text.specs.Values.{u64_value}
use Rattle.ep_text.specs.Header.{header, header_data}
use Rattle.ep_version.specs.Version.{numbered}

other : (b : Bool) (o : Option Version) → (b ≡ true → ⊥) → None ≡ (if b then o else None)
other true o h = absurd (h refl)
other false o h = refl

pub no_header : (d : Data) (n : ℕ) → n ≡ unwrap_or (option_map members_len (as_object d)) 0 → n ≢ 1 → None ≡ header_data d
no_header d n e h = other _ _ (λ is. h (e ∙ eqb-true _ 1 is))

guarded_none : (b : Bool) (o : Option Data) → (b ≡ true → o ≡ None) → None ≡ (if b then option_and_then header_data o else None)
guarded_none true o h = ap (λ p. option_and_then header_data p) (sym (h refl))
guarded_none false o h = refl

pub no_json : (line : List ℕ) → (IsUtf8 line → json line ≡ None) → None ≡ header line
no_json line h = guarded_none (is_utf8 line) (json line) (λ e. h (IsUtf8-from_is_utf8 line e))

guarded_some : (b : Bool) (o : Option Data) (d : Data) → b ≡ true → o ≡ Some d → header_data d ≡ (if b then option_and_then header_data o else None)
guarded_some true o d e h = ap (λ p. option_and_then header_data p) (sym h)
guarded_some false o d e h = cc

pub read_json : (line : List ℕ) (d : Data) → IsUtf8 line → json line ≡ Some d → header_data d ≡ header line
read_json line d u h = guarded_some (is_utf8 line) (json line) d (is_utf8-from_IsUtf8 line u) h

chosen : (b : Bool) (o p : Option Version) → b ≡ true → o ≡ p → o ≡ (if b then p else None)
chosen true o p e f = f
chosen false o p e f = cc

pub one_header : (d : Data) (n m : ℕ) → n ≡ unwrap_or (option_map members_len (as_object d)) 0 → n ≡ 1 → Some m ≡ option_and_then u64_value (get (codes "version") d) → numbered m ≡ header_data d
one_header d n m e one has = chosen _ _ _ (ap (λ k. k == 1) (sym e ∙ one)) (ap (λ o. option_and_then numbered o) has)

-- ---- a header has no `op`, so it is no command

apart : (xs ys zs : List ℕ) → bytes_eq xs ys ≡ false → xs ≡ zs → ys ≡ zs → ⊥
apart xs ys zs differ e f = true≢false (rw ((bytes_eq-Decides xs ys).1 (e ∙ sym f)) at differ)

by_name : (b : Bool) (l : List ℕ) (x d : Data) → bytes_eq (codes "version") l ≡ b → get_member (codes "version") (member l x no_members) ≡ Some d
    → get_member (codes "op") (member l x no_members) ≡ None
by_name true l x d e here =
    get_member-put_other (codes "op") l x no_members (λ f. apart (codes "version") (codes "op") l refl ((bytes_eq-Decides (codes "version") l).0 e) f)
by_name false l x d e here = absurd (none-some d (rw (get_member-put_other (codes "version") l x no_members (λ f. true≢false (rw ((bytes_eq-Decides (codes "version") l).1 f) at e))) at here))

one_name : (ms : Members) (d : Data) → members_len ms ≡ 1 → get_member (codes "version") ms ≡ Some d → get_member (codes "op") ms ≡ None
one_name no_members d one here = refl
one_name (member l x no_members) d one here = by_name _ l x d refl here
one_name (member l x (member k y ms)) d one here = absurd (omega (arith, one))

counted : (b : Bool) (o : Option Version) (v : Version) → (if b then o else None) ≡ Some v → (b ≡ true) × (o ≡ Some v)
counted true o v e = (refl, e)
counted false o v e = absurd (cc)

found : (o : Option Data) (v : Version) → option_and_then numbered (option_and_then u64_value o) ≡ Some v → (d : Data) × (o ≡ Some d)
found None v e = absurd (cc)
found (Some d) v e = (d, refl)

no_op : (ms : Members) (v : Version) → header_data (object ms) ≡ Some v → get_member (codes "op") ms ≡ None
no_op ms v e =
    let parts = counted (members_len ms == 1) _ v e in
    let value = found (get_member (codes "version") ms) v parts.1 in
    one_name ms value.0 (eqb-true (members_len ms) 1 parts.0) value.1

no_command : (d : Data) (v : Version) → header_data d ≡ Some v → result_ok (command d) ≡ None
unfolding command
no_command null v e = refl
no_command (boolean b) v e = refl
no_command (number n) v e = refl
no_command (string s) v e = refl
no_command (array ds) v e = refl
no_command (object ms) v e = rw (no_op ms v e) refl

guarded_header : (b : Bool) (o : Option Data) (r : Reason) (v : Version) → (if b then option_and_then header_data o else None) ≡ Some v
    → result_ok (if b then ok_or o r >>= command else Err r) ≡ None
guarded_header true (Some d) r v e = no_command d v e
guarded_header true None r v e = refl
guarded_header false o r v e = refl

unwritten : (line : List ℕ) (v : Version) → header line ≡ Some v → as_written line ≡ None
unwritten line v e = guarded_header (is_utf8 line) (json line) (unread line) v e

pub no_event : (version : Version) (line : List ℕ) (o : Option Version) → o ≡ header line → IsSome o → IsNone (event version line)
no_event version line None e is = absurd (cc)
no_event version line (Some v) e is = subst (λ (c : Option Command). IsNone (option_map (command_in version) c)) (sym (unwritten line v (sym e))) refl

-- ---- a command is no header

no_header_by : (first : Bool) (o : Option Version) (line : List ℕ) (c : Command) → header line ≡ o → as_written line ≡ Some c → None ≡ (if first then header line else None)
no_header_by false o line c e written = refl
no_header_by true None line c e written = sym e
no_header_by true (Some v) line c e written = absurd (none-some c (sym (unwritten line v e) ∙ written))

pub no_header_written : (first : Bool) (line : List ℕ) (c : Command) → as_written line ≡ Some c → None ≡ (if first then header line else None)
no_header_written first line c written = no_header_by first (header line) line c refl written

pub no_command_first : (first : Bool) (d : Data) (v : Version) → Some v ≡ (if first then header_data d else None) → result_ok (command d) ≡ None
no_command_first true d v e = no_command d v (sym e)
no_command_first false d v e = absurd (cc)
