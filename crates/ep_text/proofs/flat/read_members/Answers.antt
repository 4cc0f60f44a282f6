use Rattle.std.proofs.Common.{None, Some, ap, arith, length, sym, ◌-◌, ◌<◌, ◌∙◌, ◌≡◌}
use Rattle.json.specs.Json.{members, read_key, value}
use Rattle.json.proofs.Grammar.{read_key-shorter}
use Rattle.serde_json.specs.Data.{no_members, put}
use Rattle.serde_json.specs.Read.{converted, of_members}
use Rattle.ep_json.proofs.TreeLemmas.{member_read, members_over}
use Rattle.ep_text.specs.Flat.{flat_depth}
use Rattle.ep_text.specs.Key.{key_name}
use Rattle.ep_text.specs.Source.{found_data, put_all}
use Rattle.ep_text.proofs.FlatLemmas.{put_all_more}
use Rattle.ep_text.proofs.flat.read_members.Goals as goal

pub returns-in_default-key : goal.returns-in_default-key
returns-in_default-key c =
    let l = c.members in
    let closed : read_key l.reader ≡ Some (None, c.next_key.new.self) = grind arith in
    l.invariant.2 ∙ members_over (value flat_depth) (put_all no_members l.found.items) l.invariant.0 l.reader c.next_key.new.self l.invariant.1 closed

pub members-preserved : goal.members-preserved
members-preserved c =
    let p = value flat_depth in
    let l = c.members in
    let n = l.invariant.0 in
    let name = c.in-Some.name.now in
    let k = c.in-Some-named.key in
    let d = found_data c.in_ok-value.value in
    let s = c.next_key.new.self in
    let r = c.plain_value.new.reader in
    let old = put_all no_members l.found.items in
    let named : read_key l.reader ≡ Some (Some name, s) = grind arith in
    let less = read_key-shorter l.reader (Some name) s named in
    let lesser : length r < length s = c.in_ok-value.ensures.shorter in
    let more : put_all no_members c.try_push.new.self.items ≡ put (key_name k) d old = ap (put_all no_members) c.in-Ok-try_push.ensures.ok ∙ put_all_more no_members l.found.items _ in (
      n - 1,
      omega (arith, l.invariant.1, less, lesser),
      l.invariant.2 ∙ member_read p old n name l.reader s r d (omega (arith, l.invariant.1, less)) named c.in_ok-value.ensures.value
          ∙ ap (λ x. converted (λ ms. of_members ms (put x d old)) (members p (n - 1) r)) c.in-Some-named.ensures
          ∙ ap (λ found. converted (λ ms. of_members ms found) (members p (n - 1) r)) (sym more),
    )
