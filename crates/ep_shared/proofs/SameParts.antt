-- A caller that occurs nowhere has the same part on both sides.
use Rattle.std.proofs.Common.{◌≡◌, ℕ, List, [], ◌∷◌, cond, Bool, true, false, ◌||◌, refl, sym, ap, ◌∙◌}
use Rattle.std.specs.Prelude.{◌==◌}
use Rattle.std.specs.List.{list_any}
use Rattle.std.specs.declared.sync.ledger.Ledger as Ledger
use Rattle.std.proofs.lemmas.Bool.{or_parts}
use Rattle.ep_base.specs.declared.record.Record.{Record}
use Rattle.ep_shared.specs.declared.book.Session.{Session}
use Rattle.ep_shared.specs.Parts.{part}
use Rattle.ep_shared.specs.Sessions.{held, IsSame}

part_none : (d : ℕ) (h : List Record) → list_any (λ r. r.caller.0 == d) h ≡ false → part d h ≡ []
part_none d [] e = refl
part_none d (r ∷ h) e = let t = or_parts (r.caller.0 == d) (list_any (λ (x : Record). x.caller.0 == d) h) e in
    ap (λ (b : Bool). cond b (r ∷ part d h) (part d h)) t.0 ∙ part_none d h t.1

held_none : {L : Type 0} {g : Ledger.Ghosts L} (d : ℕ) (ss : List (Session L g)) → list_any (λ s. s.name.number == d) ss ≡ false → held d ss ≡ []
held_none d [] e = refl
held_none {L} {g} d (s ∷ ss) e = let t = or_parts (s.name.number == d) (list_any (λ (x : Session L g). x.name.number == d) ss) e in
    ap (λ (b : Bool). cond b s.records.items (held d ss)) t.0 ∙ held_none d ss t.1

by_cases : (P : Type 0) (b c : Bool) → (b ≡ true → P) → (c ≡ true → P) → (b ≡ false → c ≡ false → P) → P
by_cases P true c f g k = f refl
by_cases P false true f g k = g refl
by_cases P false false f g k = k refl refl

pub same_at : {L : Type 0} {g : Ledger.Ghosts L} (h : List Record) (ss : List (Session L g)) (d : ℕ) → (list_any (λ s. s.name.number == d) ss ≡ true → IsSame h ss d) → (list_any (λ r. r.caller.0 == d) h ≡ true → IsSame h ss d) → IsSame h ss d
same_at h ss d f k = by_cases (IsSame h ss d) (list_any (λ s. s.name.number == d) ss) (list_any (λ r. r.caller.0 == d) h) f k (λ a b. part_none d h b ∙ sym (held_none d ss a))
