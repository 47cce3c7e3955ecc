-- A move line is put behind the arrows, and an end line is joined in.
use Rattle.std.proofs.Common.{◌∷◌, get_or, refl, sym, ap, ◌∙◌, arith, length-set, subst, ◌<◌, ◌^◌, length}
use lib.Bits.{bit_or}
use Rattle.charts.specs.Lines.{leads_to, ends_at}
use Rattle.charts.specs.Kept.{along}
use Rattle.charts.proofs.Arrows.{move_put}
use Rattle.charts.proofs.Joins.{end_joined, joined_seen, joined_within}
use Rattle.charts.proofs.Within.{end_within}
use Rattle.charts.proofs.chart.ChartFlow.add.Goals as goal

pub invariant_of-self-in-End : goal.invariant_of-self-in-End
invariant_of-self-in-End c =
    let x = c.args.self.now in
    let h = end_within _ _ _ _ _ _ c.in-End.is c.requires.within in
    let joined = joined_seen x.ends.items _ c.in-End.at c.in-End.mask c.deref_mut.ensures.value in
    record { few = omega (arith, ap length joined ∙ length-set x.ends.items c.in-End.at (bit_or (get_or x.ends.items c.in-End.at 0) c.in-End.mask)); within = λ state. subst (λ xs. get_or xs state 0 < 2 ^ x.counts.situations) (sym joined) (joined_within x.counts.situations x.ends.items c.in-End.at c.in-End.mask h.state h.short x.within state) }

pub returns-in-Move : goal.returns-in-Move
returns-in-Move c =
    let x = c.args.self.now in
    record {
      grew = record {
        situations = refl;
        actions = refl;
        states = refl;
        added = omega arith;
        leads = move_put x.arrows.items _ _ c.args.line c.push.ensures.items c.in-Move.is;
        ends = λ lines state. ap (λ l. bit_or (get_or x.ends.items state 0) (ends_at (l ∷ lines) state)) (sym c.in-Move.is);
      };
    }

pub returns-in-End : goal.returns-in-End
returns-in-End c =
    let x = c.args.self.now in
    let h = end_within _ _ _ _ _ _ c.in-End.is c.requires.within in
    let joined = joined_seen x.ends.items _ c.in-End.at c.in-End.mask c.deref_mut.ensures.value in
    record {
      grew = record {
        situations = refl;
        actions = refl;
        states = ap length joined ∙ length-set x.ends.items _ _;
        added = omega arith;
        leads = λ lines state s a. ap (λ l. along x.arrows.items (leads_to (l ∷ lines) state s a) state s a) (sym c.in-End.is);
        ends = λ lines state. ap (λ xs. bit_or (get_or xs state 0) (ends_at lines state)) joined ∙ end_joined x.ends.items c.in-End.at c.in-End.mask c.args.line h.state c.in-End.is lines state;
      };
    }
