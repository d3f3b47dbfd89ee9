use Rattle.std.proofs.Common.{◌≡◌, ◌∙◌, refl, ◌<◌, ◌≤◌, ◌+◌, [], ◌∷◌, ◌++◌, List, ℕ, Some, sym, ap, subst, length, map, take, drop, reverse, vec_len, arith, append_assoc, append-nil}
use Rattle.std.proofs.lemmas.List.{length-map, take_all, drop_all}
use Rattle.std.specs.Prelude.{slice_index_or}
use Rattle.meson_store.specs.Commit.{GoBack, all_back}
use Rattle.meson_store.specs.inside.Commit.{names_of}
use Rattle.meson_store.specs.inside.Planned.{put_of}
use Rattle.meson_store.specs.Seen.{Seen, seen}
use Rattle.meson_store.specs.declared.committing.Planned.{Planned}
use Rattle.meson_store.proofs.Returns.{back-more, last-name, names-before, one-back, one-lost}
use Rattle.meson_store.proofs.committing.put_back.Goals as goal

is-name : {a b : List ℕ} → Some a ≡ Some b → a ≡ b
is-name e = cc

as-many : (files : List Planned) (names : List (List ℕ)) (many : ℕ) → many ≡ length names → names ≡ names_of (map put_of files) → many ≡ length files
as-many files names many e are = e ∙ ap length are ∙ length-map (map put_of files) (λ p. p.name) ∙ length-map files put_of

nothing-yet : (files : List Planned) (many : ℕ) → many ≡ length files → (s : Seen) → GoBack (reverse (map put_of (drop many files))) s s []
nothing-yet files many e s = subst (λ fs. GoBack (reverse (map put_of fs)) s s []) (sym (drop_all many files (omega arith))) (all_back s)

all-of : (files : List Planned) (many : ℕ) → many ≡ length files → (names : List (List ℕ)) → names ≡ names_of (map put_of files) → names ≡ names_of (map put_of (take many files))
all-of files many e names are = are ∙ ap (λ fs. names_of (map put_of fs)) (sym (take_all many files (omega arith)))

pub loop-name-init : goal.loop-name-init
loop-name-init g c =
    let files = c.args.files.now in
    let names = c.args.names.now in
    let many : vec_len names ≡ length files = as-many files names.items (vec_len names) names.ok.0 c.requires.named in
    record {
      few = omega arith;
      named = all-of files (vec_len names) many names.items c.requires.named;
      no_read = refl;
      room = omega arith;
      gone = ([], nothing-yet files (vec_len names) many _, sym (append-nil c.args.lost.now.items));
    }

pub loop-name-preserved-in-Ok-1 : goal.loop-name-preserved-in-Ok-1
loop-name-preserved-in-Ok-1 g c =
    let files = c.args.files.now in
    let file = c.index-files-left.result in
    let names = c.loop-name.names in
    let many = vec_len names in
    let k = vec_len c.pop.new.self in
    let next : k + 1 ≡ many = c.in-Some.ensures.cases in
    let most : many ≤ length files = c.loop-name.invariant.few in
    let within : k < length files = omega arith in
    let is : file ≡ slice_index_or files k file = c.index-files-left.is ∙ ap (λ n. slice_index_or files n file) c.len-left.ensures in
    let first = seen (g.S.Store.content c.args.store.now) (g.S.Store.failures c.args.store.now) (g.S.Store.replaces c.args.store.now) in
    let before = seen (g.S.Store.content c.loop-name.store) (g.S.Store.failures c.loop-name.store) (g.S.Store.replaces c.loop-name.store) in
    let after = seen (g.S.Store.content c.replace.new.self) (g.S.Store.failures c.replace.new.self) (g.S.Store.replaces c.replace.new.self) in
    let gone = c.loop-name.invariant.gone in
    record {
      few = omega arith;
      named = names-before files k many within next names.items c.pop.new.self.items c.loop-name.invariant.named c.pop.ensures.rest;
      no_read = c.replace.ensures.no_read ∙ c.loop-name.invariant.no_read;
      room = omega (arith, c.loop-name.invariant.room, next);
      gone = (
        gone.0 ++ [],
        back-more files k many file is within next first before after gone.0 [] gone.1
            (one-back file c.as_str.result.now before after c.as_str.ensures.value (record { put = c.in-Ok.ensures.ok; counts = c.in-Ok.ensures.counts; counted = c.in-Ok.ensures.counted })),
        gone.2 ∙ ap (λ l. c.args.lost.now.items ++ l) (sym (append-nil gone.0)),
      );
    }

pub loop-name-preserved : goal.loop-name-preserved
loop-name-preserved g c =
    let files = c.args.files.now in
    let file = c.index-files-left.result in
    let names = c.loop-name.names in
    let many = vec_len names in
    let k = vec_len c.pop.new.self in
    let next : k + 1 ≡ many = c.in-Some.ensures.cases in
    let most : many ≤ length files = c.loop-name.invariant.few in
    let within : k < length files = omega arith in
    let is : file ≡ slice_index_or files k file = c.index-files-left.is ∙ ap (λ n. slice_index_or files n file) c.len-left.ensures in
    let first = seen (g.S.Store.content c.args.store.now) (g.S.Store.failures c.args.store.now) (g.S.Store.replaces c.args.store.now) in
    let before = seen (g.S.Store.content c.loop-name.store) (g.S.Store.failures c.loop-name.store) (g.S.Store.replaces c.loop-name.store) in
    let after = seen (g.S.Store.content c.replace.new.self) (g.S.Store.failures c.replace.new.self) (g.S.Store.replaces c.replace.new.self) in
    let gone = c.loop-name.invariant.gone in
    let name = c.in-Some.name in
    let some : 0 < many = omega arith in
    let named : name ≡ file.name.now = is-name (c.in-Some.ensures.value name some) ∙ last-name files k many file is within next names.items c.loop-name.invariant.named name in
    record {
      few = omega arith;
      named = names-before files k many within next names.items c.pop.new.self.items c.loop-name.invariant.named c.pop.ensures.rest;
      no_read = c.replace.ensures.no_read ∙ c.loop-name.invariant.no_read;
      room = omega (arith, c.loop-name.invariant.room, next, c.push_reserved.ensures.len, c.push_reserved.ensures.capacity);
      gone = (
        gone.0 ++ name ∷ [],
        back-more files k many file is within next first before after gone.0 (name ∷ []) gone.1
            (one-lost file c.as_str.result.now before after c.in-Err.field-0 name c.as_str.ensures.value named
            (record { left = c.in-Err.ensures.err; failed = c.in-Err.ensures.failed; counts = c.in-Err.ensures.counts; counted = c.in-Err.ensures.counted })),
        c.push_reserved.ensures.items ∙ ap (λ l. l ++ name ∷ []) gone.2 ∙ append_assoc c.args.lost.now.items gone.0 (name ∷ []),
      );
    }

pub returns-clause-gone_back : goal.returns-clause-gone_back
returns-clause-gone_back g c =
    let files = c.args.files.now in
    let first = seen (g.S.Store.content c.args.store.now) (g.S.Store.failures c.args.store.now) (g.S.Store.replaces c.args.store.now) in
    let last = seen (g.S.Store.content c.loop-name.store) (g.S.Store.failures c.loop-name.store) (g.S.Store.replaces c.loop-name.store) in
    let gone = c.loop-name.invariant.gone in
    (gone.0, subst (λ n. GoBack (reverse (map put_of (drop n files))) first last gone.0) c.in_default.ensures.cases.0 gone.1, gone.2)
