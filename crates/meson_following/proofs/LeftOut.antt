-- Where makers are left out.
use Rattle.std.proofs.Common.{◌≡◌, ◌<◌, ◌≤◌, List, length, take, ap, ◌∙◌, arith}
use Rattle.std.specs.Prelude.{true, nat_lt, if◌then◌else◌, Some}
use Rattle.std.proofs.lemmas.Bool.{le-leb, lt-ltb, or_left}
use Rattle.std.proofs.lemmas.List.{length-take}
use Rattle.meson_lex.specs.declared.kinds.Span.{Span}
use Rattle.meson_calls.specs.declared.call.CallRef.{CallRef}
use Rattle.meson_following.specs.Makers.{Made, is_full, limited, max_makers}
use Rattle.meson_following.specs.Reads.{has_one_of, keeps_one_of}

pub left_out_seen : (m : Made Span) (makers : List CallRef) → max_makers < length m.makers → has_one_of makers (Some (limited m)) ≡ true
left_out_seen m makers more =
    let cut : Made Span = record { makers = take max_makers m.makers; unknown = true } in
    let long : nat_lt max_makers (length m.makers) ≡ true = lt-ltb max_makers (length m.makers) more in
    let kept : max_makers ≤ length (take max_makers m.makers) = let e = length-take max_makers m.makers in omega (arith, e, more) in
    let full : is_full cut ≡ true = le-leb max_makers (length (take max_makers m.makers)) kept in
    ap (λ b. has_one_of makers (Some (if b then cut else m))) long ∙ or_left (is_full cut) (keeps_one_of makers (Some cut)) full
