use Rattle.std.proofs.Common.{◌+◌, ◌∙◌, ap}
use Rattle.std.specs.Prelude.{option_map}
use Rattle.lexical_tables.specs.Targets.{view_of_text}
use Rattle.jadvolni.specs.Tables.{put_place, target_of, text_view}
use Rattle.jadvolni.proofs.TableBits.{place_usable, text_put}
use Rattle.jadvolni.proofs.table_columns.ColumnFieldsTableColumn.put_text.Goals as goal

pub put_presence-requires : goal.put_presence-requires
put_presence-requires c = record {
  usable = place_usable (c.args.row + 1) c.args.row (text_view c.text_fields.result) (target_of c.args.self.now)
      (target_of c.put_place.new.self) c.requires.usable c.put_place.ensures;
}

pub returns-then-code-eq-TEXTS-clause-text : goal.returns-then-code-eq-TEXTS-clause-text
returns-then-code-eq-TEXTS-clause-text c = λ texts.
    text_put c.args.row (view_of_text c.args.text) (target_of c.args.self.now) (target_of c.put_place.new.self)
    (target_of c.put_presence.new.self)
    (c.put_place.ensures
    ∙ ap (λ text. option_map (put_place c.args.row text) (target_of c.args.self.now)) c.text_fields.ensures)
    c.put_presence.ensures
