-- What callers see of a real sink: it does not tell what it holds.
use Rattle.std.specs.Prelude.{None}
use Rattle.flow_base.specs.declared.real_sink.RealSink.{RealSink}
use Rattle.flow_base.specs.Sink.{SinkView}

abbrev pub real_sink_view : RealSink → SinkView
real_sink_view sink = record { held = None; faults = sink.faults }
