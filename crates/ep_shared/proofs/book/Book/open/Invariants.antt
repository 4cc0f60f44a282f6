use Rattle.std.proofs.Common.{◌≡◌, ℕ, ◌+◌, ◌<◌, [], vec_len, get_or, vec_items}
use Rattle.ep_shared.proofs.book.Book.open.Given as goal

abbrev pub invariant-loop-i : goal.invariant-loop-i
invariant-loop-i g l = (l.rest.parts + l.i ≡ l.sessions) × (l.rest.amount ≡ 0) × (vec_len l.handed ≡ l.i) × ((k : ℕ) (d : _) → k < l.i → ((get_or (vec_items l.handed) k d).name.number ≡ k + 1) × ((get_or (vec_items l.handed) k d).records.items ≡ []))
