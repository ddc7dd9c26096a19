-- `scene::connections::Scene::link_of` meets its contract: each end is looked up by its id.
-- Assumes nothing.
use mathlib.Core.Path.{sym, ◌∙◌}
use Rattle.lists.proofs.Table.{place_below_lem}
use Rattle.scene.proofs.connections.Scene.link_of.Goals as goal

pub link_between-requires : goal.link_between-requires
link_between-requires c =
    let cs = c.args.self.now.components.numbers.now in
    let table = c.args.self.now.id_table in
    (place_below_lem cs _ _ (sym (c.place_near-source.ensures cs table) ∙ c.in-Some-Some.is-0), place_below_lem cs _ _ (sym (c.place_near-sink.ensures cs table) ∙ c.in-Some-Some.is-1))
