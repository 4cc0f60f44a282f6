use Rattle.std.proofs.Common.{List, arith, drop, length, take, ℕ, ◌+◌, ◌-◌, ◌≡◌, ◌≤◌, sym, ◌∙◌, ap}
use Rattle.std.proofs.lemmas.List.{drop-drop, drop-take}
use Rattle.std.proofs.Common.{length-take}
use Rattle.ep_script.proofs.chunk.Input.skip.Goals as goal

skips : (xs : List ℕ) (s e n : ℕ) → n ≤ length (take (e - s) (drop s xs)) → take (e - (s + n)) (drop (s + n) xs) ≡ drop n (take (e - s) (drop s xs))
skips xs s e n h =
    let room : e - s ≡ n + (e - (s + n)) = omega (arith, length-take (e - s) (drop s xs)) in
    sym (ap (λ k. drop n (take k (drop s xs))) room ∙ drop-take n (e - (s + n)) (drop s xs) ∙ ap (take (e - (s + n))) (drop-drop n s xs))

pub returns : goal.returns
returns c = skips c.args.self.now.chunk.items c.args.self.now.start c.args.self.now.end c.args.count c.requires
