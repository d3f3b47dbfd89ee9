-- The splice that is borrowed.
use Rattle.meson_splice.specs.declared.splice.Borrowed.{Borrowed}
use Rattle.meson_splice.specs.declared.splice.Splice.{Splice}

abbrev pub splice_of : Borrowed → Splice
splice_of b = record { file = b.file.now; at = b.at; was = b.old.now; now = b.new.now }
