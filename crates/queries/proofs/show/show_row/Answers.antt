-- By cases on where the row stands; the part ends inside its sheet. Assumes nothing.
use Rattle.queries.proofs.ShowLaws.{Shows, inside-model, inside-second, shown-in-model, shown-in-second, shown-nowhere, shown-refused}
use Rattle.formats.specs.ModelSheet.{stated}
use Rattle.queries.proofs.show.show_row.Goals.{After-part, After-part-in-InSecond}
use Rattle.queries.proofs.show.show_row.Goals as goal

-- the part that is given, of the model and of the second sheet
in_model : (c : After-part) → Shows (stated c.args.locations c.args.joints) c.args.model.now c.args.second.now c.args.o c.args.h c.part.result.now
in_model c = shown-in-model _ _ _ _ _ c.in-Ok.ensures.value _ _ _ c.in-Ok.ensures.row_inside c.in-InModel.is c.part.ensures

in_second : (c : After-part-in-InSecond) → Shows (stated c.args.locations c.args.joints) c.args.model.now c.args.second.now c.args.o c.args.h c.part-in-InSecond.result.now
in_second c = shown-in-second _ _ _ _ _ c.in-Ok.ensures.value _ _ _ c.in-Ok.ensures.row_inside c.in-InSecond.is c.part-in-InSecond.ensures

pub part-requires : goal.part-requires
part-requires c = inside-model c.args.model.now c.args.second.now _ _ c.in-Ok.ensures.row_inside c.in-InModel.is

pub part-requires-in-InSecond : goal.part-requires-in-InSecond
part-requires-in-InSecond c = inside-second c.args.model.now c.args.second.now _ _ c.in-Ok.ensures.row_inside c.in-InSecond.is

pub returns-in_default : goal.returns-in_default
returns-in_default c =
    let both = shown-refused _ _ _ _ _ c.in_default.ensures.value in
    record { result_value = both.0; part_is = both.1 }

pub returns-in-InModel : goal.returns-in-InModel
returns-in-InModel c =
    let both = in_model c in
    record { result_value = both.0; part_is = both.1 }

pub returns-in-InSecond : goal.returns-in-InSecond
returns-in-InSecond c =
    let both = in_second c in
    record { result_value = both.0; part_is = both.1 }

pub returns-in-Nowhere : goal.returns-in-Nowhere
returns-in-Nowhere c =
    let both = shown-nowhere _ _ _ _ _ c.in-Ok.ensures.value c.in-Nowhere.is in
    record { result_value = both.0; part_is = both.1 }
