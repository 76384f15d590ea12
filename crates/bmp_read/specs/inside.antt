pub mod ChannelScales
