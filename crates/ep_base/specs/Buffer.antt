-- The bytes that a buffer stands for.
use Rattle.std.specs.Prelude.{List, replicate, ℕ}
use Rattle.ep_base.specs.declared.buffer.Content.{Content}
use Rattle.ep_base.specs.declared.buffer.Content.TheVariants as contents
use Rattle.ep_base.specs.declared.buffer.Kept.{Kept}
use Rattle.ep_base.specs.declared.buffer.Kept.TheVariants as kinds

abbrev pub kept_bytes : Kept → List ℕ
kept_bytes (kinds.Listed values) = values.items
kept_bytes (kinds.Filled byte count) = replicate count byte

abbrev pub content_bytes : Content → List ℕ
content_bytes (contents.Listed bytes) = bytes.now
content_bytes (contents.Filled byte count) = replicate count byte
