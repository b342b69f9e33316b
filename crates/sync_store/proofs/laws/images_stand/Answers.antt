use Rattle.sync_store.proofs.FitSteps.{fits_image}
use Rattle.sync_store.proofs.laws.images_stand.Goals as goal

pub returns : goal.returns
returns c clients s j two left fits roomy image =
    fits_image c.cite_laws.ensures.stand clients s j two left fits roomy image
