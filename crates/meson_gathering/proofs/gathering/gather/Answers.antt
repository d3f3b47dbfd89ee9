use Rattle.std.proofs.Common.{◌≡◌, ◌<◌, ◌≤◌, ◌+◌, [], ◌∷◌, suc, ◌∙◌, refl, sym, ap, subst, inl, length, take, drop, option_map, arith}
use Rattle.std.specs.Prelude.{All}
use Rattle.std.proofs.lemmas.List.{length-append}
use Rattle.std.proofs.lemmas.List.Elements.{All-cons, All-nil, All-append}
use Rattle.std.proofs.lemmas.Result.{err_from_is_err_and}
use Rattle.meson_calls.specs.Folders.{build_file}
use Rattle.meson_calls.specs.Loading.{max_files, HasFileName, AreParsed}
use Rattle.meson_gathering.specs.Gathering.{Told, Finds, Collects, Ending, Gathers, file_of, from_root, whole}
use Rattle.meson_gathering.specs.ReadCounts.{EntersFor, Looks, ReadsFiles, StopsFor, next_file, root_read, stops_at_file, stops_at_root, unread_file}
use Rattle.meson_gathering.proofs.Places.{looks, ended_all}
use Rattle.meson_gathering.proofs.Parsed.{parsed_more, all_parsed}
use Rattle.meson_gathering.proofs.Stopping.{stops_within}
use Rattle.meson_gathering.proofs.gathering.gather.Goals as goal

pub looking-init : goal.looking-init
looking-init g c =
    let S = g.S.Store in
    let folder = option_map (λ f. f.now) c.args.folder in
    let root = c.in_ok-files.ensures.root in
    let f = file_of build_file root.0 in
    let one : length (f ∷ []) ≤ max_files = omega arith in
    record {
      kept = c.in_ok-files.ensures.kept;
      counts = c.in_ok-files.ensures.counts;
      no_replace = c.in_ok-files.ensures.no_replace;
      few = subst (λ fs. length fs ≤ max_files) (sym root.1) one;
      named = subst (All HasFileName) (sym root.1) (All-cons HasFileName f [] (inl refl) (All-nil HasFileName));
      many = ap length c.new-trees.ensures.items;
      parsed = subst (AreParsed []) (sym c.new-trees.ensures.items) tt;
      ends = λ content is end gathers. from_root root.0 end (root.2 content is) (subst (λ fs. Gathers c.args.reading content folder [] fs end) root.1 gathers);
      asks = subst (λ fs. Looks c.args.reading (S.content c.args.store.now) folder (S.reads c.args.store.now) fs 0 (S.reads c.root_set.new.store)) (sym root.1)
          (subst (Looks c.args.reading (S.content c.args.store.now) folder (S.reads c.args.store.now) (f ∷ []) 0) (sym c.in_ok-files.ensures.once) (root_read root.0 root.2));
    }

pub returns-in_err-tree-clause-stopped : goal.returns-in_err-tree-clause-stopped
returns-in_err-tree-clause-stopped g c =
    let error = err_from_is_err_and c.from_residual-in_err-tree.result c.from_residual-in_err-tree.ensures.1 in
    let folder = option_map (λ f. f.now) c.args.folder in
    let files = c.looking.files in
    let place = c.looking.looked in
    let P : Ending → Type 0 = λ end. Told (g.S.Store.content c.looking.store) (λ content. Gathers c.args.reading content folder (take place files) (drop place files) end) in
    let Q : Ending → Type 0 = Finds c.args.reading (g.S.Store.content c.args.store.now) folder in
    rw (error.1, error.2) (stops_within P Q (λ end p content is. c.looking.invariant.ends content is end (p content (c.looking.invariant.kept ∙ is)))
    (g.S.Store.failures c.args.store.now) (g.S.Store.failures c.looking.store) (g.S.Store.failures c.look.new.store) c.looking.invariant.counts c.look.ensures.counts c.in_err-tree.field-0.0 c.in_err-tree.ensures.stopped)

pub looking-preserved : goal.looking-preserved
looking-preserved g c =
    let S = g.S.Store in
    let n = S.reads c.looking.store in
    let m = S.reads c.look.new.store in
    let folder = option_map (λ f. f.now) c.args.folder in
    let old = c.looking.files in
    let new = c.look.new.files in
    let place = c.looking.looked in
    let within : place < length old = omega arith in
    let next : suc place ≡ place + 1 = omega arith in
    let trees = c.looking.trees.items in
    let grows = c.in_ok-tree.ensures.grows in
    record {
      kept = c.in_ok-tree.ensures.kept ∙ c.looking.invariant.kept;
      counts = omega (arith, c.looking.invariant.counts, c.look.ensures.counts);
      no_replace = c.look.ensures.no_replace ∙ c.looking.invariant.no_replace;
      few = grows.few;
      named = subst (All HasFileName) (sym grows.is_more) (All-append HasFileName old grows.more c.looking.invariant.named grows.named);
      many = ap length c.in_ok-push.ensures.items ∙ length-append trees _ ∙ ap (λ n. n + 1) c.looking.invariant.many;
      parsed = subst (λ k. AreParsed (take k new) c.push.new.self.items) next
          (parsed_more old grows.more new trees c.push.new.self.items c.in_ok-tree.tree place c.looking.invariant.many grows.is_more c.in_ok-push.ensures.items within c.in_ok-tree.ensures.reads c.looking.invariant.parsed);
      ends = λ content is end gathers.
          c.looking.invariant.ends content is end
          (looks c.args.reading content folder old place within new grows.more grows.is_more (c.in_ok-tree.ensures.looked content (c.looking.invariant.kept ∙ is)) end
          (subst (λ k. Gathers c.args.reading content folder (take k new) (drop k new) end) (sym next) gathers));
      asks = subst (λ k. Looks c.args.reading (S.content c.args.store.now) folder (S.reads c.args.store.now) new k m) next
          (next_file old new place n m c.looking.invariant.asks within (subst (λ b. EntersFor c.args.reading b folder old place n new m) c.looking.invariant.kept c.in_ok-tree.ensures.asks));
    }

pub returns-clause-files : goal.returns-clause-files
returns-clause-files g c =
    let past : length c.looking.files ≤ c.looking.looked = omega arith in
    let folder = option_map (λ f. f.now) c.args.folder in
    λ content is. subst (λ p. Collects c.args.reading content folder (whole p.files)) (sym c.of.ensures)
    (subst (λ fs. Collects c.args.reading content folder (whole fs)) (sym c.take.ensures)
    (c.looking.invariant.ends content is (whole c.looking.files) (ended_all c.args.reading content folder c.looking.files c.looking.looked past)))

pub of-requires : goal.of-requires
of-requires g c =
    let past : length c.looking.files ≤ c.looking.looked = omega arith in
    record {
      few = subst (λ fs. length fs ≤ max_files) (sym c.take.ensures) c.looking.invariant.few;
      named = subst (All HasFileName) (sym c.take.ensures) c.looking.invariant.named;
      parsed = subst (λ fs. AreParsed fs c.looking.trees.items) (sym c.take.ensures) (all_parsed c.looking.files c.looking.trees.items c.looking.looked past c.looking.invariant.parsed);
    }

pub returns-clause-asks : goal.returns-clause-asks
returns-clause-asks g c =
    let S = g.S.Store in
    let folder = option_map (λ f. f.now) c.args.folder in
    let past : length c.looking.files ≤ c.looking.looked = omega arith in
    subst (λ p. ReadsFiles c.args.reading (S.content c.args.store.now) folder (S.reads c.args.store.now) p.files (S.reads c.looking.store)) (sym c.of.ensures)
    (subst (λ fs. ReadsFiles c.args.reading (S.content c.args.store.now) folder (S.reads c.args.store.now) fs (S.reads c.looking.store)) (sym c.take.ensures)
    (record { place = c.looking.looked; past = past; looks = c.looking.invariant.asks }))

pub returns-in_err-files-clause-stopped : goal.returns-in_err-files-clause-stopped
returns-in_err-files-clause-stopped g c =
    let p = err_from_is_err_and c.from_residual.result c.from_residual.ensures.1 in
    rw (p.1, p.2) (c.in_err-files.ensures.stopped c.args.reading)

pub returns-in_err-files-clause-asks_at_most : goal.returns-in_err-files-clause-asks_at_most
returns-in_err-files-clause-asks_at_most g c =
    let p = err_from_is_err_and c.from_residual.result c.from_residual.ensures.1 in
    rw (p.1, p.2) (stops_at_root c.in_err-files.ensures.asks_at_most)

pub returns-in_err-tree-clause-asks_at_most : goal.returns-in_err-tree-clause-asks_at_most
returns-in_err-tree-clause-asks_at_most g c =
    let error = err_from_is_err_and c.from_residual-in_err-tree.result c.from_residual-in_err-tree.ensures.1 in
    let S = g.S.Store in
    let folder = option_map (λ f. f.now) c.args.folder in
    let files = c.looking.files in
    let place = c.looking.looked in
    let n = S.reads c.looking.store in
    rw (error.1, error.2) (stops_at_file files place n c.looking.invariant.asks
    (subst (λ b. StopsFor c.args.reading b folder files place n (S.reads c.look.new.store) (unread_file c.in_err-tree.field-0.0)) c.looking.invariant.kept c.in_err-tree.ensures.asks_at_most))

pub returns-in_err-push-clause-asks_at_most : goal.returns-in_err-push-clause-asks_at_most
returns-in_err-push-clause-asks_at_most g c =
    let S = g.S.Store in
    let folder = option_map (λ f. f.now) c.args.folder in
    let old = c.looking.files in
    let new = c.look.new.files in
    let place = c.looking.looked in
    let n = S.reads c.looking.store in
    let m = S.reads c.look.new.store in
    let within : place < length old = omega arith in
    let looked = next_file old new place n m c.looking.invariant.asks within (subst (λ b. EntersFor c.args.reading b folder old place n new m) c.looking.invariant.kept c.in_ok-tree.ensures.asks) in
    let p = err_from_is_err_and c.from_residual-in_err-push.result c.from_residual-in_err-push.ensures.1 in
    rw (p.1, p.2) (stops_at_file new (suc place) m looked (inl (refl, refl)))
