-- Laws of what is known of variables.
use Rattle.std.specs.Prelude.{◌≡◌, ◌<◌, true, List, length, Some}
use Rattle.meson_lex.specs.declared.kinds.Span.{Span}
use Rattle.meson_calls.specs.declared.call.CallRef.{CallRef}
use Rattle.meson_following.specs.Makers.{Made, limited, max_makers}
use Rattle.meson_following.specs.Reads.{has_one_of}

-- the law: where makers are left out, a read may see the value of any
abbrev pub LeftOutAreSeen : Type 0
LeftOutAreSeen = (m : Made Span) (makers : List CallRef) → max_makers < length m.makers → has_one_of makers (Some (limited m)) ≡ true
