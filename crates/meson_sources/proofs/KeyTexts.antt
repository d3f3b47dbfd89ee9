-- The names of the keyword arguments of files are texts.
use Rattle.meson_calls.proofs.IdentifierTexts.{key_text}
use Rattle.meson_sources.proofs.Words.{codes, IsUtf8, refl}

pub sources_text : IsUtf8 (codes "sources")
sources_text = key_text (codes "sources") refl

pub extra_text : IsUtf8 (codes "extra_files")
extra_text = key_text (codes "extra_files") refl
