use Rattle.meson_variables.proofs.Words.{◌∙◌, sym, ap, Some, if◌then◌else◌, bytes_eq, option_map, on_ok_weaker, text_at, expr_view, chosen, what_view, placed}
use Rattle.meson_variables.proofs.Words.{place_at, value_view, met_in, note_assigned, merged, with_assigned}
use Rattle.meson_variables.proofs.Assignments.{met_by_name}
use Rattle.meson_variables.proofs.values.Values.meet.Goals as goal

pub returns-in-Assign : goal.returns-in-Assign
returns-in-Assign c =
    let n = c.args.note.now in
    let source = n.source.now in
    let y = text_at source c.in-Assign.name in
    let v = c.args.self.now in
    on_ok_weaker c.put.result (λ so x. so x
    ∙ ap (λ z. if bytes_eq z x then Some (merged (met_in v x) (option_map value_view c.outermost.result)) else met_in v x) c.text_of.ensures
    ∙ ap (λ w. if bytes_eq y x then Some (merged (met_in v x) w) else met_in v x) c.outermost.ensures
    ∙ met_by_name x y n c.in-Assign.sets (expr_view source c.in-Assign.value.now) (met_in v x)
    ∙ ap (λ w. with_assigned (met_in v x) (chosen (note_assigned x) (placed (place_at n.place) (what_view source w)))) (sym c.in-Assign.is)) c.put.ensures
