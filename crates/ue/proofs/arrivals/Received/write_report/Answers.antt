use Rattle.std.specs.Prelude.{flat_map}
use Rattle.std.proofs.Common.{◌++◌, map, length, ap, ◌∙◌, arith, rules}
use Rattle.harq.specs.Configs.{span}
use Rattle.harq.specs.Placers.{fresh}
use Rattle.ue.specs.Slots.{place_bits}
use Rattle.ue.specs.Fillings.{placed_by}
use Rattle.ue.specs.Reports.{sps_bit}
use Rattle.ue.proofs.Gaining.{gains_both}
use Rattle.ue.proofs.Reporting.{slots_written, room_enough}
use Rattle.ue.proofs.arrivals.Received.write_report.Goals as goal

pub put_sps-requires : goal.put_sps-requires
put_sps-requires g c =
    let q = c.args.self.now.config.now in
    let written = c.place_all.ensures ∙ ap (placed_by q (fresh (span q)) c.args.self.now.arrivals.now) (c.fill.ensures.after (λ y h. search rules)) ∙ slots_written q _ _ _ _ _ c.requires.1 in
    omega (arith, c.put_places.ensures.left, ap (λ l. length (flat_map (place_bits q.mode) l)) written, room_enough q _ _ _ _ _ c.requires.1)

pub returns : goal.returns
returns g c =
    let q = c.args.self.now.config.now in
    let written = c.place_all.ensures ∙ ap (placed_by q (fresh (span q)) c.args.self.now.arrivals.now) (c.fill.ensures.after (λ y h. search rules)) ∙ slots_written q _ _ _ _ _ c.requires.1 in
    record {
      slots = written;
      gains =
          gains_both g.S.BitSink.taken g.S.BitSink.room g.S.BitSink.took _ _ _ _ _ _ c.put_places.ensures c.put_sps.ensures
          (ap (λ l. flat_map (place_bits q.mode) l ++ map sps_bit c.args.self.now.sps.now) written);
    }
