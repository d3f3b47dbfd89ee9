use Rattle.meson_steps.specs.OrderedLists.{all_put}
use Rattle.meson_sources.specs.Sorting.{added_text}
use Rattle.meson_sources.proofs.sorting.put_names.Goals as goal
use Rattle.meson_sources.proofs.Words.{ap, arith, map, refl, Some, ◌++◌, ◌∙◌, bare}
use Rattle.meson_sources.proofs.sorted.Putting.{all_there, next_put}

pub loop-i-init : goal.loop-i-init
loop-i-init c = record {
  from = refl;
  end = omega arith;
  put = λ o is. record {
    now = o;
    is = is;
    from = refl;
    end = omega arith;
    left = ap (λ xs. map Some xs ++ map bare (all_put c.args.list.now o (map added_text (map (λ x. x.now) c.args.names.now)))) c.new-steps.ensures.items;
  };
}

pub loop-i-preserved : goal.loop-i-preserved
loop-i-preserved c =
    let was = c.loop-i.invariant in
    let from = was.from in
    let end = was.end in
    let more = c.in_ok-put_name.ensures.end in
    record {
      from = c.put_name.ensures.from ∙ from;
      end = omega (arith, end, more);
      put = λ o is.
          let p = was.put o is in
          next_put (λ x. x.now) c.args.list.now o c.loop-i.into c.put_name.new.into c.loop-i.steps.items c.put_name.new.steps.items c.args.names.now c.loop-i.i c.index-names-i.result c.loop-i-test.true c.index-names-i.is p
          (c.in_ok-put_name.ensures.list p.now p.is) (c.in_ok-put_name.ensures.steps p.now p.is);
    }

pub returns-clause-steps : goal.returns-clause-steps
returns-clause-steps c = λ o is. all_there (λ x. x.now) c.args.list.now o c.loop-i.into c.loop-i.steps.items c.args.names.now c.loop-i.i c.loop-i-test.false (c.loop-i.invariant.put o is)
