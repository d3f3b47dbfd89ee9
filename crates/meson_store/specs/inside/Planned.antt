-- What a planned replace means.
use Rattle.std.specs.Prelude.{string_bytes}
use Rattle.meson_store.specs.Commit.{Put}
use Rattle.meson_store.specs.declared.committing.Planned.{Planned}

abbrev pub put_of : Planned → Put
put_of p = record { path = string_bytes p.path; name = p.name.now; was = p.was.now; bytes = p.bytes.now }
