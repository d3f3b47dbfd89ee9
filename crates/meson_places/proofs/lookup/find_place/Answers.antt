use Rattle.std.proofs.Common.{◌≡◌, sym, ap, ◌∙◌}
use Rattle.std.proofs.lemmas.Result.{IfOk-weaker}
use Rattle.meson_splice.specs.Patch.{then_ok}
use Rattle.meson_calls.proofs.OneCall.{if_refused}
use Rattle.meson_places.specs.Names.{found_on, found_within, loaded_in, numbered_file, the_place}
use Rattle.meson_places.proofs.lookup.find_place.Goals as goal

pub returns-in_ok-file-in-Line-clause-refused : goal.returns-in_ok-file-in-Line-clause-refused
returns-in_ok-file-in-Line-clause-refused c =
    let l = loaded_in c.args.sources in
    let s = c.args.search.now in
    let within = c.in_ok-within.within in
    let line = c.in-Line.line in
    if_refused c.found_on.result (the_place l s) (found_on l within c.in_ok-file-in-Line.file line)
    (ap (λ r. then_ok r (λ w. found_within l w s.name)) c.in_ok-within.ensures.found ∙ ap (found_within l within) c.in-Line.is
    ∙ ap (λ r. then_ok r (λ n. found_on l within n line)) (sym (c.in_ok-file-in-Line.ensures ∙ ap (numbered_file l.files) c.get.ensures)))
    c.found_on.ensures.refused

pub returns-in_ok-file-in-Line-clause-found : goal.returns-in_ok-file-in-Line-clause-found
returns-in_ok-file-in-Line-clause-found c =
    let l = loaded_in c.args.sources in
    let s = c.args.search.now in
    let within = c.in_ok-within.within in
    let line = c.in-Line.line in
    let same : the_place l s ≡ found_on l within c.in_ok-file-in-Line.file line =
    ap (λ r. then_ok r (λ w. found_within l w s.name)) c.in_ok-within.ensures.found ∙ ap (found_within l within) c.in-Line.is
    ∙ ap (λ r. then_ok r (λ n. found_on l within n line)) (sym (c.in_ok-file-in-Line.ensures ∙ ap (numbered_file l.files) c.get.ensures)) in
    IfOk-weaker c.found_on.result _ _ (λ place is. same ∙ is) c.found_on.ensures.found
