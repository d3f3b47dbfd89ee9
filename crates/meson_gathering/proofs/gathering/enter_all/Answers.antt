use Rattle.std.proofs.Common.{◌≤◌, ◌+◌, ◌∷◌, [], ◌∙◌, Some, ap, refl, sym, subst, length, map, take, drop, option_map, string_bytes, arith}
use Rattle.std.proofs.lemmas.List.{take_all}
use Rattle.std.proofs.lemmas.Result.{err_from_is_err_and}
use Rattle.meson_gathering.specs.Gathering.{Told, Ending, files_entered}
use Rattle.meson_gathering.specs.inside.Gathered.{IsNotEntered}
use Rattle.meson_gathering.specs.ReadCounts.{EntersEach, EntersOne, next_name, no_name}
use Rattle.meson_gathering.proofs.EnteredFiles.{name_in, names_cut, names_more, stop_within, entered_then, grows_none, grows_then}
use Rattle.meson_gathering.proofs.Stopping.{stops_within}
use Rattle.meson_gathering.proofs.gathering.enter_all.Goals as goal

pub enter-requires-clause-named : goal.enter-requires-clause-named
enter-requires-clause-named g c =
    name_in string_bytes c.args.names.now c.loop-i.i c.index-names-i.result c.as_str.result.now c.index-names-i.is c.loop-i-test.true c.as_str.ensures.value c.requires.named

pub returns-in_err-enter-clause-stopped : goal.returns-in_err-enter-clause-stopped
returns-in_err-enter-clause-stopped g c =
    let folder = option_map (λ f. f.now) c.args.folder in
    let names = map string_bytes c.args.names.now in
    let name = c.as_str.result.now in
    let held = g.S.Store.content c.args.store.now in
    let P : Ending → Type 0 = λ end. Told (g.S.Store.content c.loop-i.store) (λ content. IsNotEntered content folder (name ∷ []) c.loop-i.files end) in
    let Q : Ending → Type 0 = λ end. Told held (λ content. IsNotEntered content folder names c.args.files.now end) in
    let cut = names_cut string_bytes c.args.names.now c.loop-i.i c.index-names-i.result name c.index-names-i.is c.loop-i-test.true c.as_str.ensures.value in
    let before = map string_bytes (take c.loop-i.i c.args.names.now) in
    let after = map string_bytes (drop (c.loop-i.i + 1) c.args.names.now) in
    let error = err_from_is_err_and c.from_residual.result c.from_residual.ensures.1 in
    rw (error.1, error.2) (stops_within P Q (λ end p content is. stop_within content folder before after names name c.args.files.now c.loop-i.files end cut (c.loop-i.invariant.so_far content is) (p content (c.loop-i.invariant.kept ∙ is)))
    (g.S.Store.failures c.args.store.now) (g.S.Store.failures c.loop-i.store) (g.S.Store.failures c.enter.new.store) c.loop-i.invariant.counts c.enter.ensures.counts c.in_err-enter.field-0.0 c.in_err-enter.ensures.stopped)

pub loop-i-preserved : goal.loop-i-preserved
loop-i-preserved g c =
    let S = g.S.Store in
    let n = S.reads c.loop-i.store in
    let m = S.reads c.enter.new.store in
    let folder = option_map (λ f. f.now) c.args.folder in
    let name = c.as_str.result.now in
    let before = map string_bytes (take c.loop-i.i c.args.names.now) in
    let more = names_more string_bytes c.args.names.now c.loop-i.i c.index-names-i.result name c.index-names-i.is c.loop-i-test.true c.as_str.ensures.value in
    record {
      kept = c.in_ok-enter.ensures.kept ∙ c.loop-i.invariant.kept;
      counts = omega (arith, c.loop-i.invariant.counts, c.enter.ensures.counts);
      no_replace = c.enter.ensures.no_replace ∙ c.loop-i.invariant.no_replace;
      so_far = λ content is. ap (λ ns. files_entered content folder ns c.args.files.now) more
          ∙ entered_then content folder before (name ∷ []) c.args.files.now c.loop-i.files (Some c.enter.new.files) (c.loop-i.invariant.so_far content is) (c.in_ok-enter.ensures.entered content (c.loop-i.invariant.kept ∙ is));
      grows = grows_then c.args.files.now c.loop-i.files c.enter.new.files c.loop-i.invariant.grows c.in_ok-enter.ensures.grows;
      asks = subst (λ ns. EntersEach (S.content c.args.store.now) folder c.args.files.now (S.reads c.args.store.now) ns c.enter.new.files m) (sym more)
          (next_name before name c.loop-i.files c.enter.new.files n m c.loop-i.invariant.asks (subst (λ b. EntersOne b folder name c.loop-i.files n c.enter.new.files m) c.loop-i.invariant.kept c.in_ok-enter.ensures.asks));
    }

pub loop-i-init : goal.loop-i-init
loop-i-init g c = record {
  kept = refl;
  counts = omega arith;
  no_replace = refl;
  so_far = λ content is. refl;
  grows = grows_none c.args.files.now c.requires.few;
  asks = no_name;
}

pub returns-clause-asks : goal.returns-clause-asks
returns-clause-asks g c =
    let S = g.S.Store in
    let folder = option_map (λ f. f.now) c.args.folder in
    let past : length c.args.names.now ≤ c.loop-i.i = omega arith in
    subst (λ ns. EntersEach (S.content c.args.store.now) folder c.args.files.now (S.reads c.args.store.now) (map string_bytes ns) c.loop-i.files (S.reads c.loop-i.store))
    (take_all c.loop-i.i c.args.names.now past) c.loop-i.invariant.asks

pub returns-in_err-enter-clause-asks_at_most : goal.returns-in_err-enter-clause-asks_at_most
returns-in_err-enter-clause-asks_at_most g c =
    let name = c.as_str.result.now in
    let error = err_from_is_err_and c.from_residual.result c.from_residual.ensures.1 in
    rw (error.1, error.2) (record {
      done = map string_bytes (take c.loop-i.i c.args.names.now);
      name = name;
      rest = map string_bytes (drop (c.loop-i.i + 1) c.args.names.now);
      all = names_cut string_bytes c.args.names.now c.loop-i.i c.index-names-i.result name c.index-names-i.is c.loop-i-test.true c.as_str.ensures.value;
      there = c.loop-i.files;
      so_far = g.S.Store.reads c.loop-i.store;
      entered = c.loop-i.invariant.asks;
      last = c.in_err-enter.ensures.asks_at_most;
    })
