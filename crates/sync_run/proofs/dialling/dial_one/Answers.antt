use Rattle.std.proofs.Common.{◌∷◌, [], inr, sym, subst}
use Rattle.outside.specs.Links.{Links}
use Rattle.sync_run.specs.Dialling.{MakesLinks}
use Rattle.sync_run.proofs.DialLaws.{calms_dial, calms_nonce, calms_stills, calms_then, dial_well}
use Rattle.sync_run.proofs.DialLaws.{makes_asked, makes_dialled, nonce_fails, nonce_well, none_then}
use Rattle.sync_run.proofs.DialLaws.{stills_call}
use Rattle.sync_run.proofs.dialling.dial_one.Goals as goal

pub returns-then-not-has_nonce-clause-makes : goal.returns-then-not-has_nonce-clause-makes
returns-then-not-has_nonce-clause-makes g c = (
  makes_dialled c.args.words.now _ _ _ _ c.as_str.ensures c.in_ok-link.ensures.links,
  dial_well _ _ _ _ c.in_ok-link.ensures.links,
)

pub returns-then-not-has_nonce-clause-calms : goal.returns-then-not-has_nonce-clause-calms
returns-then-not-has_nonce-clause-calms g c =
    calms_dial _ _ _ _ c.dial.ensures.call c.dial.ensures.links

pub returns-in-Ok-clause-makes : goal.returns-in-Ok-clause-makes
returns-in-Ok-clause-makes g c = (
  makes_asked (c.args.words.now ∷ []) _ _ _ _ _
      (makes_dialled c.args.words.now _ _ _ _ c.as_str.ensures c.in_ok-link.ensures.links)
      c.nonce.ensures.links,
  none_then _ _ _ (dial_well _ _ _ _ c.in_ok-link.ensures.links)
      (nonce_well _ _ _ _ c.in-Ok.ensures.links),
)

pub returns-in-Ok-clause-calms : goal.returns-in-Ok-clause-calms
returns-in-Ok-clause-calms g c =
    calms_then _ _ _ (calms_dial _ _ _ _ c.dial.ensures.call c.dial.ensures.links)
    (calms_nonce _ _ _ _ c.nonce.ensures.call c.nonce.ensures.links)

pub returns-in-Err-clause-makes : goal.returns-in-Err-clause-makes
returns-in-Err-clause-makes g c =
    let words = c.args.words.now in
    let dials = c.in_ok-link.ensures.links in
    let still = c.hang_up.ensures.links in (
      nonce_fails _ _ _ _ _ _ _ dials c.in-Err.ensures.links still,
      inr (subst (λ (l : Links). MakesLinks (words ∷ []) (g.H.Disk.tells c.args.host.now).links l)
          (sym still)
          (makes_asked (words ∷ []) _ _ _ _ _ (makes_dialled words _ _ _ _ c.as_str.ensures dials)
          c.nonce.ensures.links)),
    )

pub returns-in-Err-clause-calms : goal.returns-in-Err-clause-calms
returns-in-Err-clause-calms g c =
    calms_then _ _ _
    (calms_then _ _ _ (calms_dial _ _ _ _ c.dial.ensures.call c.dial.ensures.links)
    (calms_nonce _ _ _ _ c.nonce.ensures.call c.nonce.ensures.links))
    (calms_stills _ _ (stills_call _ _ c.hang_up.ensures.call c.hang_up.ensures.links))
