use Rattle.std.proofs.Common.{refl, ◌∙◌, rules}
use Rattle.walk.proofs.Going.{begin, different, equal, goes_on, no_room}
use Rattle.walk.proofs.walking.walk.Goals as goal

pub loop-pair-init : goal.loop-pair-init
loop-pair-init g c = record {
  name = refl;
  going = begin _ _ _ c.in_ok-put_down.ensures.grew.same_room (c.in_ok-put_down.ensures.grew.lists ∙ (search rules));
}

pub returns-then-disagree_at : goal.returns-then-disagree_at
returns-then-disagree_at g c = record { walked = different _ _ _ c.loop-pair.invariant.going _ c.in-Some.ensures.listed c.if-disagree_at.ensures.masks_differ (search rules) }

pub returns-in_err-follow : goal.returns-in_err-follow
returns-in_err-follow g c = record {
  walked = no_room _ _ _ c.loop-pair.invariant.going _ c.in-Some.ensures.listed c.if-disagree_at.ensures.masks_differ c.in_err-follow.ensures.grew (search rules);
}

pub loop-pair-preserved : goal.loop-pair-preserved
loop-pair-preserved g c = record {
  name = search rules;
  going = goes_on _ _ _ c.loop-pair.invariant.going _ c.in-Some.ensures.listed c.if-disagree_at.ensures.masks_differ c.in_ok-follow.ensures.grew;
}

pub returns : goal.returns
returns g c = record { walked = equal _ _ _ c.loop-pair.invariant.going c.in_default.ensures.behind (search rules) }
