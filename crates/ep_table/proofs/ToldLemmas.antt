-- What a call on the tables raises stands as lost.
use Rattle.std.proofs.Common.{List, Some, [], ap, subst, sym, ℕ, ◌∙◌, ◌≡◌}
use Rattle.std.proofs.lemmas.Option.{none-some}
use Rattle.ep_base.specs.declared.errno.Errno.{Errno}
use Rattle.ep_machine.specs.Effect.{first}
use Rattle.ep_machine.specs.FilesCalls.{FilesCall}
use Rattle.ep_machine.specs.Spread.{raised_of}
use Rattle.ep_table.specs.Value.{AreLive, IsTold, Seen, losses_of}
use Rattle.ep_table.specs.declared.words.Loss.{Loss}

-- nothing, where nothing is let go
pub nothing_told : (call : FilesCall) (v : Seen) → call.raised ≡ [] → v.losses ≡ [] → IsTold call v
nothing_told call v silent none _ = record {
  bits = λ d. ap (λ (rs : List (ℕ × ℕ)). raised_of rs d) silent ∙ ap (λ (ls : List Loss). raised_of (losses_of v.keys ls) d) (sym none);
  live = subst (λ (ls : List Loss). AreLive v.keys ls) (sym none) tt;
  instances = λ d is. ap (λ (ls : List Loss). raised_of (losses_of v.keys ls) d) none;
}

-- and nothing of a call that is refused
pub refused_untold : (call : FilesCall) (v : Seen) (e : Errno) → first call.refusals ≡ Some e → IsTold call v
refused_untold call v e refused none = absurd (none-some e (sym none ∙ refused))
