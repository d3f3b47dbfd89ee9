-- What a change is for, in the words of the person who made it.
use Rattle.std.specs.Prelude.{◌&&◌, ℕ, nat_le, List, length, Bool, not}
use Rattle.std.specs.List.{list_any}
use Rattle.meson_calls.specs.Folders.{is_control}

-- at most 200 bytes, and no control character of ASCII: all bytes of other characters are 128 and more
abbrev pub is_title : List ℕ → Bool
is_title text = nat_le (length text) 200 && not (list_any is_control text)
