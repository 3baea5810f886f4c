-- What the computed tables open: the definitions of all sections, under one name.
use Rattle.paper.specs.Limits as Limits
use Rattle.paper.specs.Numbers as Numbers
use Rattle.paper.specs.Axes as Axes
use Rattle.paper.specs.Cells as Cells
use Rattle.paper.specs.Operators as Operators
use Rattle.paper.specs.Bundle as Bundle
use Rattle.paper.specs.Reference as Reference
use Rattle.paper.specs.Totals as Totals
use Rattle.paper.specs.Recipe as Recipe
use Rattle.paper.specs.Values as Values
use Rattle.paper.specs.Listing as Listing
use Rattle.paper.specs.Stretch as Stretch
use Rattle.paper.specs.Rests as Rests
use Rattle.paper.specs.Json as Json
use Rattle.paper.specs.Grammar as Grammar
use Rattle.paper.specs.Machine as Machine
use Rattle.paper.specs.JsonRead as JsonRead

unfoldable pub opened : Unit {0}
unfolding Limits.sizes_of Numbers.le_bytes Numbers.position Numbers.distance Numbers.last_of Numbers.from Numbers.concat Numbers.total
    Numbers.alike
    Numbers.zeros Axes.name_rest Axes.is_name Axes.named Axes.good_names Axes.good_limits Axes.cells Axes.offset Axes.at_offset Axes.build
    Axes.place_of Axes.at Cells.finite Cells.filled Cells.cell_from Cells.encode Cells.is_truth Cells.trues Operators.takes Operators.gives
    Operators.takes_one Operators.gives_one Operators.fit_int Operators.fit_float Operators.int_by Operators.float_div Operators.abs_float
    Operators.two Operators.worked Operators.compared Operators.and_cell Operators.or_cell Operators.not_cell Operators.answered
    Operators.applied Operators.signed Operators.single_cell Bundle.each_axis Bundle.cells_of Bundle.array_of Bundle.read_array
    Bundle.version_told Bundle.version_in Bundle.read_arrays Bundle.read_as Bundle.names_fit Bundle.axes_bytes Bundle.array_bytes
    Bundle.bundle_bytes Bundle.pack_array Bundle.pack_arrays
    Bundle.packed Bundle.put_into Reference.chosen Reference.referred Reference.reference Reference.seen Reference.walked_on Totals.totals?
    Totals.filled_from Totals.holds Totals.best Totals.best_of Totals.int Totals.int_total Totals.int_sum Totals.float Totals.sum_on
    Totals.float_sum Totals.total_of Totals.totals Recipe.operation Recipe.operand Recipe.uses Recipe.unused_zero Recipe.is_scalar
    Recipe.takes_type Recipe.types_fit Recipe.axis_differs Recipe.in_step Recipe.first_difference Recipe.agree Recipe.each_anew Recipe.glued
    Recipe.fits_in Recipe.result_type Recipe.result_names
    Recipe.result_axes
    Recipe.step_tests Recipe.step_result Recipe.step_over Recipe.plan_step Recipe.plan_steps Recipe.plan_recipe Values.shifted_back Values.whence
    Values.taken Values.made Values.cell_at Values.settled Values.value_of Values.values_from Listing.planned Listing.plan Listing.work_after
    Listing.run_tests Listing.run_after Listing.row Listing.list_tests Listing.page_tests Listing.listed Listing.go_on Listing.page_of
    Listing.page_values Listing.page_after Stretch.judge Stretch.stay Stretch.stretch_at Stretch.glue_tests Stretch.stretch_in Stretch.stretch
    Stretch.handed_out
    Rests.digits Rests.decimal Rests.spaced Rests.printed Rests.rests Json.cell_text Json.commas Json.layers Json.brackets Json.written
    Grammar.among Grammar.ends Grammar.optional Grammar.rules Machine.chosen Machine.settled Machine.move Machine.fault_from
    JsonRead.outer JsonRead.token_of JsonRead.tokens_from JsonRead.spells JsonRead.data_in JsonRead.data_of JsonRead.digits_of JsonRead.number_of
    JsonRead.natural JsonRead.cell_in JsonRead.due JsonRead.fits JsonRead.fitted JsonRead.cells_as JsonRead.cells_in JsonRead.fill_with
opened = tt
