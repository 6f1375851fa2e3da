use Rattle.std.proofs.Common.{◌++◌, reverse, map, ap, ◌∙◌, arith}
use Rattle.io_face.specs.Memory.{file_entry}
use Rattle.io_face.proofs.ShelfLemmas.{reversed-more}
use Rattle.io_face.proofs.mem_folder.newest_first.Goals as goal

pub loop-name-preserved : goal.loop-name-preserved
loop-name-preserved c =
    let rest = c.pop.new.self.items in
    record {
      order = ap (λ es. es ++ reverse (map file_entry rest)) c.push_back_reserved.ensures.items ∙ reversed-more c.loop-name.entries.items c.loop-name.files.items rest (c.in-Some.name, c.in-Some.text) file_entry c.in-Some.ensures.items ∙ c.loop-name.invariant.order;
      places = omega (arith, c.in-Some.ensures.len, c.push_back_reserved.ensures.len, c.push_back_reserved.ensures.capacity);
    }
