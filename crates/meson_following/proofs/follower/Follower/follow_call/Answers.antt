use Rattle.std.proofs.Common.{length, map, sym, ap, arith, ◌∙◌}
use Rattle.meson_calls.specs.Calls.{value_with_name}
use Rattle.meson_calls.specs.NamedArguments.{kept_args, kwargs_key}
use Rattle.meson_following.specs.CodeArguments.{call_followed}
use Rattle.meson_following.specs.CodeFollowing.{followed_project, following_view, mark_view}
use Rattle.meson_following.proofs.MetArguments.{call_is, none_hidden, some_hidden}
use Rattle.meson_following.proofs.follower.Follower.follow_call.Goals as goal
use Rattle.meson_following.proofs.follower.Follower.follow_call.Goals.{then-count_named-gt0+in_ok-miss, else-count_named-gt0}

pub returns-clause-marks : goal.returns-clause-marks
returns-clause-marks c = λ function.
    let p = followed_project c.args.self.now in
    let source = c.args.source.now in
    let call = c.args.call.now in
    let l = c.args.arguments.now in
    let args = c.get-args.result.now in
    let count = c.count_named.ensures ∙ ap (λ k. length (kept_args source (value_with_name k) 0 args)) c.as_slice.ensures in
    let met = c.in_ok-found.ensures ∙ ap (call_followed p call source) c.get-args.ensures in
    let hidden = count ∙ ap (λ xs. length (kept_args source (value_with_name kwargs_key) 0 xs)) c.get-args.ensures in
    elim c.if-count_named-gt0.branch [
      | then-count_named-gt0+in_ok-miss w ↦
          ap (λ f. map mark_view f.marks.items) w.found-is
          ∙ some_hidden p call function source l (following_view c.in_ok-found.found) met (omega (arith, hidden, w.if-count_named-gt0.true)) (following_view w.miss.new.self) w.in_ok-miss.ensures
      | else-count_named-gt0 w ↦
          ap (λ f. map mark_view f.marks.items) w.found-is
          ∙ none_hidden p call function source l (following_view c.in_ok-found.found) met (omega (arith, hidden, w.if-count_named-gt0.false))
    ]

pub returns-clause-followed : goal.returns-clause-followed
returns-clause-followed c = λ function.
    let p = followed_project c.args.self.now in
    let source = c.args.source.now in
    let call = c.args.call.now in
    let l = c.args.arguments.now in
    let met = c.in_ok-found.ensures ∙ ap (call_followed p call source) c.get-args.ensures ∙ sym (call_is p call function source l) in
    elim c.if-count_named-gt0.branch [
      | then-count_named-gt0+in_ok-miss w ↦
          ap (λ f. f.followed.items) w.found-is ∙ ap (λ f. f.followed) w.in_ok-miss.ensures ∙ ap (λ f. f.followed) met
      | else-count_named-gt0 w ↦ ap (λ f. f.followed.items) w.found-is ∙ ap (λ f. f.followed) met
    ]
