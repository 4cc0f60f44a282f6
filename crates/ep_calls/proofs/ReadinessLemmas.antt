-- What registrations show, looking down through instances.
use Rattle.std.proofs.Common.{◌≡◌, ℕ, Bool, true, ap, unwrap_or}
use Rattle.ep_interest.specs.declared.entry.Entry.{Entry}
use Rattle.ep_machine.specs.Bits.{asked, when}
use Rattle.ep_machine.specs.Files.{object_of, side_of}
use Rattle.ep_law.proofs.ReadinessLemmas.{present_same}
use Rattle.ep_machine.specs.Objects.{is_instance, plain}
use Rattle.ep_calls.specs.Readiness.{entry_bits, shown_over}
use Rattle.ep_calls.specs.Stands.{number_at}
use Rattle.ep_table.specs.Value.{Seen}

module _ (r : ℕ → Bool) (v : Seen) (now : ℕ) where
  pub shown_below : (b : Bool) (x : Entry) → (is_instance (unwrap_or (object_of v.files (number_at v.keys x.desc)) plain) ≡ true → b ≡ r (number_at v.keys x.desc)) → shown_over b v now x ≡ entry_bits r v now x
  shown_below b x h =
      let d = number_at v.keys x.desc in
      ap (λ (bits : ℕ). when x.armed (asked x.mask.0 bits)) (present_same (λ k. b) r d (object_of v.files d) (side_of v.files d) now h)
